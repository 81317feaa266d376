use Rattle.std.proofs.Common.{◌∙◌, ap}
use Rattle.sorted_order.specs.ArenaView.{picked}
use Rattle.sorted_order.proofs.PickedFacts.{by_rises, filter_within, by_filter}
use Rattle.sorted_order.proofs.arena.Arena.matching.Goals as goal

pub matching-numbers-requires-clause-rising : goal.matching-numbers-requires-clause-rising
matching-numbers-requires-clause-rising g c =
    let a = c.self.inside in
    by_rises g.P.ItemProbe.compared c.args.probe.now c.new.result.probe.now a.items.items c.new.result.items.now a.order.items _ c.args.self.now
    c.self.view_is c.new.ensures.probe (c.new.ensures.items ∙ c.as_slice.ensures.value) c.self.invariant.within c.requires

pub new-requires-2 : goal.new-requires-2
new-requires-2 g c =
    rw (c.matching-numbers.ensures, c.as_slice-2.ensures.value) (filter_within _ _ c.self.inside.order.items c.self.invariant.within)

pub returns : goal.returns
returns g c =
    let a = c.self.inside in
    c.new-2.ensures ∙ ap (λ xs. picked xs c.matching-numbers.result) c.as_slice-2.ensures.value
    ∙ ap (λ ns. picked a.items.items ns) c.matching-numbers.ensures
    ∙ by_filter g.P.ItemProbe.compared c.args.probe.now c.new.result.probe.now a.items.items c.new.result.items.now a.order.items _ c.args.self.now
    c.self.view_is c.new.ensures.probe (c.new.ensures.items ∙ c.as_slice.ensures.value) c.self.invariant.within
