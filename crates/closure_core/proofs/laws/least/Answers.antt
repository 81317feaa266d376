use Rattle.std.proofs.Common.{◌≡◌, true}
use Rattle.closure_core.proofs.MemberFacts.{member_closed, member_least}
use Rattle.closure_core.proofs.laws.least.Goals as goal

pub returns-clause-closed : goal.returns-clause-closed
returns-clause-closed g c m = member_closed m

pub returns-clause-least : goal.returns-clause-least
returns-clause-least g c m closed p is = member_least m g.S.DocumentSet.has closed p is

pub returns-clause-tests : goal.returns-clause-tests
returns-clause-tests g c m set closed p is = member_least m (λ q. set q ≡ true) closed p is
