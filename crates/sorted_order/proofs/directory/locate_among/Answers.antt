use Rattle.std.proofs.Common.{◌≡◌, ◌+◌, ◌<◌, [], suc, length, arith, inl, inr, ◌∙◌, ap}
use Rattle.std.proofs.lemmas.Bool.{cases_lt}
use Rattle.std.proofs.lemmas.List.{get_or_read}
use Rattle.sorted_order.specs.Inside.Blocks.{block_at}
use Rattle.sorted_order.proofs.BlockFacts.{before_next, before_all}
use Rattle.sorted_order.proofs.directory.locate_among.Goals as goal

pub loop-within-preserved : goal.loop-within-preserved
loop-within-preserved c =
    let bs = c.args.blocks.now in
    let i = c.loop-within.block in
    let h = c.loop-within.invariant in
    let tested : c.len.result ≡ length (block_at bs i) =
    c.len.ensures.len ∙ ap length (get_or_read bs i c.index-blocks-block.result h.listed c.index-blocks-block.is []) in
    let taken : c.len-within.result ≡ length (block_at bs i) =
    c.len-within.ensures.len ∙ ap length (get_or_read bs i c.index-blocks-block-in-loop-within.result h.listed c.index-blocks-block-in-loop-within.is []) in
    let next = before_next bs i h.listed in
    let one : i + 1 ≡ suc i = omega arith in
    let listed : suc i < length bs = elim (cases_lt (suc i) (length bs)) [
      | inl some ↦ some
      | inr end ↦ absurd (omega (arith, before_all bs (suc i) end, next, tested, c.loop-within-test.true, h.whole, c.requires.place))
    ] in
    rw one (record {
      listed = listed;
      whole = omega (arith, next, tested, taken, h.whole, c.loop-within-test.true);
      earlier = λ p. omega (arith, tested, taken, c.loop-within-test.true);
    })
