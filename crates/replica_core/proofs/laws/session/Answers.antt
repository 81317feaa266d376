use Rattle.replica_core.proofs.WorldJoins.{joins}
use Rattle.replica_core.proofs.WorldLawFacts.{brought}
use Rattle.replica_core.proofs.laws.session.Goals as goal

pub returns : goal.returns
returns c = record { brings = brought joins }
