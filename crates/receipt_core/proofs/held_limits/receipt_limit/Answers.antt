use Rattle.receipt_core.proofs.LimitFacts.{receipt_limit-most, receipt_limit-of}
use Rattle.receipt_core.proofs.held_limits.receipt_limit.Goals as goal

pub returns-clause-limit : goal.returns-clause-limit
returns-clause-limit c =
    receipt_limit-of c.args.config.now c.limits.result c.min.result c.max.result c.limits.ensures c.min.ensures c.max.ensures

pub returns-clause-most : goal.returns-clause-most
returns-clause-most c = receipt_limit-most c.args.config.now
