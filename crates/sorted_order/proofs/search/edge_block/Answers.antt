use Rattle.std.proofs.Common.{◌≡◌, ◌+◌, ◌-◌, ◌/◌, ◌<◌, [], length, arith, ◌∙◌, ap, sym, subst, slice_index}
use Rattle.std.proofs.lemmas.List.{get_or_read}
use Rattle.sorted_order.specs.Inside.Blocks.{block_at}
use Rattle.sorted_order.proofs.BlockFacts.{filled_at}
use Rattle.sorted_order.proofs.SearchFacts.{All-block}
use Rattle.sorted_order.proofs.search.edge_block.Goals as goal

pub bounds-as_slice-0 : goal.bounds-as_slice-0
bounds-as_slice-0 g c =
    let bs = c.args.blocks.now in
    let l = c.loop-low in
    let middle = l.low + (l.high - l.low) / 2 in
    let here : middle < length bs = omega (arith, l.invariant.within, c.loop-low-test.true) in
    let later : 0 < middle = omega (arith, c.loop-low-test.true) in
    let same : c.as_slice.result.now ≡ block_at bs middle =
    c.as_slice.ensures ∙ get_or_read bs middle c.index-blocks-middle.result here c.index-blocks-middle.is [] in
    omega (arith, ap length same, filled_at bs middle later here c.requires.filled)

pub compare-requires : goal.compare-requires
compare-requires g c =
    let bs = c.args.blocks.now in
    let l = c.loop-low in
    let middle = l.low + (l.high - l.low) / 2 in
    let here : middle < length bs = omega (arith, l.invariant.within, c.loop-low-test.true) in
    let later : 0 < middle = omega (arith, c.loop-low-test.true) in
    let same : c.as_slice.result.now ≡ block_at bs middle =
    c.as_slice.ensures ∙ get_or_read bs middle c.index-blocks-middle.result here c.index-blocks-middle.is [] in
    let some : 0 < length (block_at bs middle) = omega (arith, filled_at bs middle later here c.requires.filled) in
    subst (g.P.Probe.knows c.args.probe.now) (ap (λ xs. slice_index xs 0) (sym same))
    (All-block (g.P.Probe.knows c.args.probe.now) bs middle here c.requires.known 0 0 some)
