use Rattle.std.proofs.Common.{◌≡◌}
use Rattle.sorted_order.specs.Inside.Blocks.{length_before}
use Rattle.sorted_order.proofs.sums.length_of.Given as goal

abbrev pub invariant-loop-block : goal.invariant-loop-block
invariant-loop-block l = l.numbers ≡ length_before l.blocks l.block-index
