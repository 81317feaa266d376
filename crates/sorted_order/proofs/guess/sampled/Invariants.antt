use Rattle.std.proofs.Common.{◌-◌, ◌≤◌}
use Rattle.sorted_order.proofs.guess.sampled.Given as goal

abbrev pub invariant-samples : goal.invariant-samples
invariant-samples l = l.place ≤ l.far

abbrev pub decreases-samples : goal.decreases-samples
decreases-samples l = l.far - l.place
