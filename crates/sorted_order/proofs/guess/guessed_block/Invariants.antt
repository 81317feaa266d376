use Rattle.std.proofs.Common.{◌-◌, ◌≤◌, length}
use Rattle.sorted_order.proofs.guess.guessed_block.Given as goal

abbrev pub invariant-loop-high : goal.invariant-loop-high
invariant-loop-high g l = record {
  order : l.low ≤ l.high;
  within : l.high ≤ length l.blocks;
}

abbrev pub decreases-loop-high : goal.decreases-loop-high
decreases-loop-high g l = l.high - l.low
