use Rattle.std.proofs.Common.{◌≡◌, ◌+◌, ◌-◌, ◌<◌, [], arith, ◌∙◌, ap, sym, slice_index}
use Rattle.std.proofs.lemmas.List.{get_or_read}
use Rattle.sorted_order.specs.Inside.Blocks.{block_at, IsSpot}
use Rattle.sorted_order.specs.Sequence.{Sequence}
use Rattle.sorted_order.proofs.BlockFacts.{concat-at}
use Rattle.sorted_order.proofs.order.Order.get.Goals as goal

pub returns : goal.returns
returns c =
    let bs = c.self.inside.blocks.items in
    let i = c.locate-block.result.0 in
    let w = c.locate-block.result.1 in
    let spot : IsSpot bs (c.args.at + 1) i w = rw c.as_slice.ensures.value at c.locate-block.ensures.spot in
    let some : 0 < w = c.locate-block.ensures.earlier (omega arith) in
    let same : c.as_slice-3.result.now ≡ block_at bs i =
    c.as_slice-3.ensures ∙ get_or_read bs i c.index.result.now spot.listed c.index.ensures [] in
    rw same (sym (concat-at bs i (w - 1) c.args.at spot.listed (omega (arith, spot.within)) (omega (arith, spot.whole)))
    ∙ ap (λ (s : Sequence). slice_index s.items c.args.at) c.self.view_is)
