use Rattle.std.proofs.Common.{ap}
use Rattle.sorted_order.specs.Sequence.{Sequence}
use Rattle.sorted_order.proofs.SearchFacts.{found_from, missing_from}
use Rattle.sorted_order.proofs.order.Order.find_number_by_guess.Goals as goal

pub returns-in-Some : goal.returns-in-Some
returns-in-Some g c =
    found_from (g.P.Probe.compared c.args.probe.now) c.self.inside.blocks.items c.as_slice-blocks.result.now c.args.self.now.items
    c.edge_by_guess-block.result.0 c.edge_by_guess-block.result.1 c.in-Some.number c.as_slice-blocks.ensures.value
    (ap (λ (s : Sequence). s.items) c.self.view_is) c.requires.rising c.edge_by_guess-block.ensures.edge c.in-Some.ensures.0 c.in-Some.ensures.1

pub returns-in-None : goal.returns-in-None
returns-in-None g c =
    missing_from (g.P.Probe.compared c.args.probe.now) c.self.inside.blocks.items c.as_slice-blocks.result.now c.args.self.now.items
    c.edge_by_guess-block.result.0 c.edge_by_guess-block.result.1 c.length_before_block.result c.as_slice-blocks.ensures.value
    (ap (λ (s : Sequence). s.items) c.self.view_is) c.length_before_block.ensures c.requires.rising c.edge_by_guess-block.ensures.edge c.in-None.ensures
