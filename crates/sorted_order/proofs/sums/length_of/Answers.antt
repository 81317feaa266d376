use Rattle.std.proofs.Common.{◌≡◌, ◌+◌, ◌<◌, [], suc, length, arith, ◌∙◌, ap}
use Rattle.std.proofs.lemmas.List.{get_or_read}
use Rattle.sorted_order.specs.Inside.Blocks.{block_at}
use Rattle.sorted_order.proofs.BlockFacts.{before_next, before_within}
use Rattle.sorted_order.proofs.sums.length_of.Goals as goal

pub overflow_add-numbers : goal.overflow_add-numbers
overflow_add-numbers c =
    let bs = c.args.blocks.now in
    let i = c.loop-block.block-index in
    let here : i < length bs = omega arith in
    let taken : c.len-numbers.result ≡ length (block_at bs i) =
    c.len-numbers.ensures.len
    ∙ ap length (get_or_read bs i c.block-item.result here c.block-item.is []) in
    omega (
      arith,
      taken,
      c.loop-block.invariant,
      before_next bs i here,
      before_within bs (suc i),
      c.requires,
    )

pub loop-block-preserved : goal.loop-block-preserved
loop-block-preserved c =
    let bs = c.args.blocks.now in
    let i = c.loop-block.block-index in
    let here : i < length bs = omega arith in
    let taken : c.len-numbers.result ≡ length (block_at bs i) =
    c.len-numbers.ensures.len
    ∙ ap length (get_or_read bs i c.block-item.result here c.block-item.is []) in
    let one : i + 1 ≡ suc i = omega arith in
    rw one (omega (arith, taken, c.loop-block.invariant, before_next bs i here))
