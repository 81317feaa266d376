use Rattle.sorted_order.proofs.SumFacts.{rest_within, spot_among}
use Rattle.sorted_order.proofs.directory.locate.Goals as goal

pub locate_among-block-requires-clause-place : goal.locate_among-block-requires-clause-place
locate_among-block-requires-clause-place c =
    let group = c.group_at-group in
    rest_within c.args.sums.now c.args.blocks.now c.args.at group.result.0 group.result.1 c.requires.summed
    group.ensures.listed group.ensures.whole c.requires.place

pub returns-clause-spot : goal.returns-clause-spot
returns-clause-spot c =
    let group = c.group_at-group in
    spot_among c.args.sums.now c.args.blocks.now c.args.at group.result.0 group.result.1 c.locate_among-block.result.0 c.locate_among-block.result.1
    c.requires.summed group.ensures.listed group.ensures.whole c.locate_among-block.ensures.spot
