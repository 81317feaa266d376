use Rattle.replica_texts.proofs.GiveHeaderFacts.{some-records, none-records}
use Rattle.replica_texts.proofs.give_header_reader.records_after.Goals as goal

pub returns-in-Some-clause-right : goal.returns-in-Some-clause-right
returns-in-Some-clause-right c = some-records c.args.text.now _ _ _ c.in-Some.ensures c.number_after-number.ensures.right

pub returns-in-None-clause-right : goal.returns-in-None-clause-right
returns-in-None-clause-right c = none-records c.args.text.now c.in-None.ensures
