use Rattle.receipt_core.specs.Acceptance.{IsPending}
use Rattle.closure_core.proofs.CountFacts.{counted_alike, one_count}
use Rattle.closure_core.proofs.MemberFacts.{alike_turned, pending_alike}
use Rattle.closure_core.proofs.laws.one_number.Goals as goal

pub returns-clause-gain : goal.returns-clause-gain
returns-clause-gain c old new n k a b = one_count _ n k a b

pub returns-clause-pending : goal.returns-clause-pending
returns-clause-pending c one other n k alike a b =
    one_count (IsPending other) n k
    (counted_alike (IsPending one) (IsPending other) n (pending_alike one other alike) (pending_alike other one (alike_turned one other alike)) a) b
