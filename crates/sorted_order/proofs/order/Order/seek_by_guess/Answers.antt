use Rattle.std.proofs.Common.{ap}
use Rattle.sorted_order.specs.Sequence.{Sequence}
use Rattle.sorted_order.proofs.SearchFacts.{gap_from}
use Rattle.sorted_order.proofs.order.Order.seek_by_guess.Goals as goal

pub returns-clause-gap : goal.returns-clause-gap
returns-clause-gap g c =
    gap_from (g.P.Probe.compared c.args.probe.now) c.self.inside.blocks.items c.as_slice-blocks.result.now c.args.self.now.items
    c.edge_by_guess-block.result.0 c.edge_by_guess-block.result.1 c.length_before_block.result c.as_slice-blocks.ensures.value
    (ap (λ (s : Sequence). s.items) c.self.view_is) c.length_before_block.ensures c.requires.rising c.edge_by_guess-block.ensures.edge
