use Rattle.std.proofs.Common.{◌≡◌, [], ◌∙◌}
use Rattle.std.proofs.lemmas.List.{get_or_read}
use Rattle.sorted_order.specs.Inside.Blocks.{block_at}
use Rattle.sorted_order.proofs.SearchFacts.{All-block, edge_of_block}
use Rattle.sorted_order.proofs.search.edge_among.Goals as goal

pub edge_in-place-requires : goal.edge_in-place-requires
edge_in-place-requires g c =
    let bs = c.args.blocks.now in
    let i = c.edge_block-block.result in
    let here = c.edge_block-block.ensures.within in
    let same : c.as_slice.result.now ≡ block_at bs i =
    c.as_slice.ensures ∙ get_or_read bs i c.index-blocks-block.result here c.index-blocks-block.is [] in
    rw same (All-block (g.P.Probe.knows c.args.probe.now) bs i here c.requires.known)

pub returns-clause-edge : goal.returns-clause-edge
returns-clause-edge g c =
    let bs = c.args.blocks.now in
    let i = c.edge_block-block.result in
    let here = c.edge_block-block.ensures.within in
    let same : c.as_slice.result.now ≡ block_at bs i =
    c.as_slice.ensures ∙ get_or_read bs i c.index-blocks-block.result here c.index-blocks-block.is [] in
    edge_of_block (g.P.Probe.compared c.args.probe.now) bs i c.edge_in-place.result c.requires.filled c.edge_block-block.ensures
    (rw same at c.edge_in-place.ensures)
