use Rattle.side_by_side.proofs.PromiseFacts.{both_law, own_law}
use Rattle.side_by_side.proofs.laws.promise.Goals as goal

pub returns-clause-own : goal.returns-clause-own
returns-clause-own c = own_law (record { receipts = c.sets.ensures.receipts; records = c.sets.ensures.records })

pub returns-clause-both : goal.returns-clause-both
returns-clause-both c = both_law (record { receipts = c.sets.ensures.receipts; records = c.sets.ensures.records })
