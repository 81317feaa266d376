use Rattle.replica_texts.proofs.SoleLineFacts.{entry_plain, first_plain}
use Rattle.replica_texts.proofs.laws.sole_lines.Goals as goal

pub returns-clause-first : goal.returns-clause-first
returns-clause-first c = first_plain

pub returns-clause-entry : goal.returns-clause-entry
returns-clause-entry c = entry_plain
