use Rattle.std.proofs.Common.{◌∙◌}
use Rattle.sorted_order.proofs.PickedFacts.{by_rises, by_gap}
use Rattle.sorted_order.proofs.arena.Arena.before.Goals as goal

pub before-requires-clause-rising : goal.before-requires-clause-rising
before-requires-clause-rising g c =
    let a = c.self.inside in
    by_rises g.P.ItemProbe.compared c.args.probe.now c.new.result.probe.now a.items.items c.new.result.items.now a.order.items _ c.args.self.now
    c.self.view_is c.new.ensures.probe (c.new.ensures.items ∙ c.as_slice.ensures.value) c.self.invariant.within c.requires

pub returns : goal.returns
returns g c =
    let a = c.self.inside in
    by_gap g.P.ItemProbe.compared c.args.probe.now c.new.result.probe.now a.items.items c.new.result.items.now a.order.items _ c.args.self.now c.before-2.result
    c.self.view_is c.new.ensures.probe (c.new.ensures.items ∙ c.as_slice.ensures.value) c.self.invariant.within c.before-2.ensures
