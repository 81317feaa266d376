use Rattle.replica_journal.proofs.PrefixFacts.{beginning_read, beginning_refused, written_read}
use Rattle.replica_journal.proofs.laws.journals.Goals as goal

pub returns-clause-written : goal.returns-clause-written
returns-clause-written c = written_read c.sole_lines.ensures.first c.sole_lines.ensures.entry

pub returns-clause-read : goal.returns-clause-read
returns-clause-read c = beginning_read

pub returns-clause-refused : goal.returns-clause-refused
returns-clause-refused c = beginning_refused
