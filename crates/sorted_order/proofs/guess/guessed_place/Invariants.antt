use Rattle.std.proofs.Common.{◌-◌, ◌≤◌}
use Rattle.sorted_order.proofs.guess.guessed_place.Given as goal

abbrev pub invariant-loop-low : goal.invariant-loop-low
invariant-loop-low g l = l.low ≤ l.high

abbrev pub decreases-loop-low : goal.decreases-loop-low
decreases-loop-low g l = l.high - l.low
