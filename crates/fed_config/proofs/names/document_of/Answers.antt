use Rattle.fed_config.proofs.DocumentFacts.{fails}
use Rattle.fed_config.proofs.names.document_of.Goals as goal

pub returns-in-Err : goal.returns-in-Err
returns-in-Err c = rw c.cause_of.ensures (fails c.values.ensures.none _ c.in-Err.error c.in-Err.ensures)
