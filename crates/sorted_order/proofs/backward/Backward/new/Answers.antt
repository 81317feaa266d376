use Rattle.std.proofs.Common.{◌≡◌, [], ◌∙◌, arith}
use Rattle.std.proofs.lemmas.List.{get_or_read}
use Rattle.sorted_order.specs.Inside.Blocks.{block_at}
use Rattle.sorted_order.proofs.BackwardFacts.{half_before, backward_view}
use Rattle.sorted_order.proofs.backward.Backward.new.Goals as goal

pub invariant_of-result-2 : goal.invariant_of-result-2
invariant_of-result-2 c = half_before c.args.blocks.now c.locate_among-block.result.0 c.requires.filled

pub returns : goal.returns
returns c =
    let bs = c.args.blocks.now in
    let i = c.locate_among-block.result.0 in
    let spot = c.locate_among-block.ensures.spot in
    let same : c.as_slice.result.now ≡ block_at bs i =
    c.as_slice.ensures ∙ get_or_read bs i c.index-blocks-block.result spot.listed c.index-blocks-block.is [] in
    backward_view c.args.here.now bs c.args.left i c.locate_among-block.result.1 c.as_slice.result.now
    (omega (arith, c.if-left-here.false)) spot same
