use Rattle.receipt_core.proofs.LimitFacts.{record_limit-most, record_limit-of}
use Rattle.receipt_core.proofs.held_limits.record_limit.Goals as goal

pub returns-clause-limit : goal.returns-clause-limit
returns-clause-limit c =
    record_limit-of c.args.config.now c.limits.result c.min.result c.max.result c.limits.ensures c.min.ensures c.max.ensures

pub returns-clause-most : goal.returns-clause-most
returns-clause-most c = record_limit-most c.args.config.now
