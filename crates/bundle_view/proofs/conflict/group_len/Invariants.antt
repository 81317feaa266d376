use Rattle.std.proofs.Common.{◌≡◌, ◌<◌, ◌≤◌, ◌-◌, length, take}
use Rattle.std.specs.List.{All}
use Rattle.bundle_view.proofs.conflict.group_len.Given as goal

abbrev pub invariant-loop-len : goal.invariant-loop-len
invariant-loop-len l = (0 < l.len) × (l.len ≤ length l.documents) × All (λ d. d.rank ≡ l.rank) (take l.len l.documents)

abbrev pub decreases-loop-len : goal.decreases-loop-len
decreases-loop-len l = length l.documents - l.len
