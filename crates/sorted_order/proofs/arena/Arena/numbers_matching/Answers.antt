use Rattle.std.proofs.Common.{◌≡◌, ◌∙◌, ℕ, List, ap}
use Rattle.std.specs.List.{filter}
use Rattle.std.specs.declared.cmp.Ordering.{Ordering}
use Rattle.sorted_order.specs.Sought.{is_equal}
use Rattle.sorted_order.specs.ArenaView.{ArenaView, compared_at}
use Rattle.sorted_order.proofs.PickedFacts.{by_rises}
use Rattle.sorted_order.proofs.arena.Arena.numbers_matching.Goals as goal

-- What is kept of the lent items is what is kept of the arena's, since both are the same.
same_numbers : {T P : Type 0} (compared : P → T → Ordering) (p q : P) (items lent : List T)
    (order : List ℕ) (capacity : ℕ) (stock : ArenaView T)
    → record { items = items; order = order; capacity = capacity } ≡ stock → q ≡ p → lent ≡ items
    → filter (λ n. is_equal (compared_at (compared q) lent n)) order
    ≡ filter (λ n. is_equal (compared_at (compared p) stock.items n)) stock.order
same_numbers {T} {P} compared p q items lent order capacity stock view same_probe same_items =
    rw (same_probe, same_items)
    (ap (λ (s : ArenaView T). filter (λ n. is_equal (compared_at (compared p) s.items n)) s.order) view)

pub matching-requires-clause-rising : goal.matching-requires-clause-rising
matching-requires-clause-rising g c =
    let a = c.self.inside in
    by_rises g.P.ItemProbe.compared c.args.probe.now c.new-by_item.result.probe.now a.items.items
    c.new-by_item.result.items.now a.order.items _ c.args.self.now
    c.self.view_is c.new-by_item.ensures.probe (c.new-by_item.ensures.items ∙ c.as_slice.ensures.value)
    c.self.invariant.within c.requires

pub returns-clause-numbers : goal.returns-clause-numbers
returns-clause-numbers g c =
    let a = c.self.inside in
    c.matching.ensures
    ∙ same_numbers g.P.ItemProbe.compared c.args.probe.now c.new-by_item.result.probe.now
    a.items.items
    c.new-by_item.result.items.now a.order.items _ c.args.self.now
    c.self.view_is c.new-by_item.ensures.probe (c.new-by_item.ensures.items ∙ c.as_slice.ensures.value)
