use Rattle.std.proofs.Common.{◌≡◌, true}
use Rattle.closure_core.proofs.MemberFacts.{member_closed, member_least}
use Rattle.replica_core.specs.World.{meant_by}
use Rattle.replica_core.proofs.WorldJoins.{joins}
use Rattle.replica_core.proofs.WorldLawFacts.{means}
use Rattle.replica_core.proofs.laws.validity.Goals as goal

pub returns-clause-means : goal.returns-clause-means
returns-clause-means g c = means joins

pub returns-clause-closed : goal.returns-clause-closed
returns-clause-closed g c past i = member_closed (meant_by past i)

pub returns-clause-least : goal.returns-clause-least
returns-clause-least g c past i closed p is = member_least (meant_by past i) g.S.DocumentSet.has closed p is

pub returns-clause-tests : goal.returns-clause-tests
returns-clause-tests g c past i set closed p is = member_least (meant_by past i) (λ q. set q ≡ true) closed p is
