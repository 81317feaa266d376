use Rattle.std.proofs.Common.{◌∙◌}
use Rattle.sorted_order.proofs.PickedFacts.{by_rises, by_number}
use Rattle.sorted_order.proofs.arena.Arena.find_by_guess.Goals as goal

pub find_number_by_guess-requires-clause-rising : goal.find_number_by_guess-requires-clause-rising
find_number_by_guess-requires-clause-rising g c =
    let a = c.self.inside in
    by_rises g.P.ItemProbe.compared c.args.probe.now c.new.result.probe.now a.items.items c.new.result.items.now a.order.items _ c.args.self.now
    c.self.view_is c.new.ensures.probe (c.new.ensures.items ∙ c.as_slice.ensures.value) c.self.invariant.within c.requires

pub returns : goal.returns
returns g c =
    let a = c.self.inside in
    by_number g.P.ItemProbe.compared c.args.probe.now c.new.result.probe.now a.items.items c.new.result.items.now
    a.order.items _ c.args.self.now c.find_number_by_guess.result
    c.self.view_is c.new.ensures.probe (c.new.ensures.items ∙ c.as_slice.ensures.value) c.self.invariant.within c.find_number_by_guess.ensures
