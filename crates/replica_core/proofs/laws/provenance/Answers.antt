use Rattle.replica_core.proofs.WorldJoins.{joins}
use Rattle.replica_core.proofs.Provenance.{now-comes, saved-comes}
use Rattle.replica_core.proofs.laws.provenance.Goals as goal

pub returns-clause-comes : goal.returns-clause-comes
returns-clause-comes c = now-comes joins

pub returns-clause-saved_comes : goal.returns-clause-saved_comes
returns-clause-saved_comes c = saved-comes joins
