use Rattle.std.proofs.Common.{◌≡◌, ◌++◌, length}
use Rattle.bundle_view.proofs.listed.list_accepted.Given as goal

abbrev pub invariant-lent : goal.invariant-lent
invariant-lent g l = l.documents.items ++ l.accepted ≡ l.initial.accepted

abbrev pub decreases-lent : goal.decreases-lent
decreases-lent g l = length l.accepted
