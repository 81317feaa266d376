use Rattle.replica_core.proofs.WorldJoins.{joins}
use Rattle.replica_core.proofs.WorldLawFacts.{agreed}
use Rattle.replica_core.proofs.laws.agreement.Goals as goal

pub returns : goal.returns
returns c = record { agreed = agreed joins }
