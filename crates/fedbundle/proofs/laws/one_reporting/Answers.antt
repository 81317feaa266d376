use Rattle.fedbundle.proofs.LineErrorOrderFacts.{one_reporting, first_reporting}
use Rattle.fedbundle.proofs.laws.one_reporting.Goals as goal

pub returns-clause-all : goal.returns-clause-all
returns-clause-all c = one_reporting

pub returns-clause-first : goal.returns-clause-first
returns-clause-first c = first_reporting
