use Rattle.std.proofs.Common.{◌∙◌, sym}
use Rattle.sorted_order.proofs.SearchFacts.{missing_else, missing_none}
use Rattle.sorted_order.proofs.PickedFacts.{not_equal_at}
use Rattle.sorted_order.proofs.order.Order.find_by_guess.Goals as goal

pub returns-else-is_eq : goal.returns-else-is_eq
returns-else-is_eq g c =
    let compared = g.P.Probe.compared c.args.probe.now in
    missing_else compared c.args.self.now.items c.seek_by_guess-place.result.0 c.in-Some.number c.requires.rising c.seek_by_guess-place.ensures.gap
    (sym c.seek_by_guess-place.ensures.number ∙ c.in-Some.is)
    (not_equal_at compared c.in-Some.number c.compare.result c.is_eq.result c.compare.ensures c.is_eq.ensures c.if-is_eq.false)

pub returns-in-None : goal.returns-in-None
returns-in-None g c =
    missing_none (g.P.Probe.compared c.args.probe.now) c.args.self.now.items c.seek_by_guess-place.result.0 c.seek_by_guess-place.ensures.gap
    (sym c.seek_by_guess-place.ensures.number ∙ c.in-None.is)
