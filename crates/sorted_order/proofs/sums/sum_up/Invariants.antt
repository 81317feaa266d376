use Rattle.std.proofs.Common.{◌≡◌, ℕ, ◌*◌, ◌≤◌, length, take, drop}
use Rattle.std.specs.List.{sum}
use Rattle.sorted_order.specs.Inside.Blocks.{length_before}
use Rattle.sorted_order.proofs.sums.sum_up.Given as goal

abbrev pub invariant-loop-group : goal.invariant-loop-group
invariant-loop-group l = record {
  groups : length l.sums ≡ length l.initial.sums;
  rest : l.rest ≡ drop (64 * l.group) l.blocks;
  each : (group : ℕ) → group ≤ l.group
      → sum (take group l.sums) ≡ length_before l.blocks (64 * group);
}
