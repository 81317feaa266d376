use Rattle.std.proofs.Common.{arith}
use Rattle.sorted_order.proofs.BlockFacts.{before_within}
use Rattle.sorted_order.proofs.SumFacts.{before_block}
use Rattle.sorted_order.proofs.sums.length_before_block.Goals as goal

pub length_of-requires : goal.length_of-requires
length_of-requires c =
    omega (
      arith,
      before_block c.args.sums.now c.args.blocks.now c.args.block c.requires.summed c.requires.block,
      before_within c.args.blocks.now c.args.block,
      c.requires.few,
    )

pub overflow_add-result : goal.overflow_add-result
overflow_add-result c =
    omega (
      arith,
      before_block c.args.sums.now c.args.blocks.now c.args.block c.requires.summed c.requires.block,
      before_within c.args.blocks.now c.args.block,
      c.requires.few,
      c.total.ensures,
      c.length_of.ensures,
    )

pub returns : goal.returns
returns c =
    omega (
      arith,
      before_block c.args.sums.now c.args.blocks.now c.args.block c.requires.summed c.requires.block,
      c.total.ensures,
      c.length_of.ensures,
    )
