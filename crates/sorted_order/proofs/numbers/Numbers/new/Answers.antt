use Rattle.std.proofs.Common.{◌≡◌, [], ◌∙◌}
use Rattle.std.proofs.lemmas.List.{get_or_read}
use Rattle.sorted_order.specs.Inside.Blocks.{block_at}
use Rattle.sorted_order.proofs.BlockFacts.{left_from, left_view}
use Rattle.sorted_order.proofs.numbers.Numbers.new.Goals as goal

pub invariant_of-result-2 : goal.invariant_of-result-2
invariant_of-result-2 c =
    let bs = c.args.blocks.now in
    let i = c.locate-block.result.0 in
    let spot = c.locate-block.ensures.spot in
    let same : c.as_slice.result.now ≡ block_at bs i =
    c.as_slice.ensures ∙ get_or_read bs i c.index-blocks-block.result spot.listed c.index-blocks-block.is [] in
    left_from bs c.args.at i c.locate-block.result.1 c.args.numbers c.as_slice.result.now spot c.requires.filled c.requires.within same

pub returns : goal.returns
returns c =
    let bs = c.args.blocks.now in
    let i = c.locate-block.result.0 in
    let spot = c.locate-block.ensures.spot in
    let same : c.as_slice.result.now ≡ block_at bs i =
    c.as_slice.ensures ∙ get_or_read bs i c.index-blocks-block.result spot.listed c.index-blocks-block.is [] in
    left_view bs c.args.at i c.locate-block.result.1 c.args.numbers c.as_slice.result.now spot same
