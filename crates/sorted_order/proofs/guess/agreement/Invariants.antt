use Rattle.std.proofs.Common.{◌-◌, ◌≤◌}
use Rattle.sorted_order.proofs.guess.agreement.Given as goal

abbrev pub invariant-strides : goal.invariant-strides
invariant-strides l = l.place ≤ l.both

abbrev pub decreases-strides : goal.decreases-strides
decreases-strides l = l.both - l.place

abbrev pub invariant-bytes : goal.invariant-bytes
invariant-bytes l = l.place ≤ l.both

abbrev pub decreases-bytes : goal.decreases-bytes
decreases-bytes l = l.both - l.place
