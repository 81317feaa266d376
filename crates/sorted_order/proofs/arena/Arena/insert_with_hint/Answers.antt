use Rattle.std.proofs.Common.{◌≡◌, ◌+◌, ◌≤◌, [], ◌∷◌, ◌++◌, ◌∙◌, ap, length, arith, length-append}
use Rattle.std.specs.List.{insert}
use Rattle.sorted_order.specs.ArenaView.{in_order, picked}
use Rattle.sorted_order.proofs.PickedFacts.{picked-insert, Arranges-insert}
use Rattle.sorted_order.proofs.arena.Arena.insert_with_hint.Goals as goal

pub invariant_of-self : goal.invariant_of-self
invariant_of-self g c =
    let a = c.self.inside in
    let number : c.len-number.result ≡ length a.items.items = c.len-number.ensures.len ∙ c.self.invariant.counted in
    let more : length c.push_reserved.new.self.items ≡ length a.items.items + 1 =
    omega (arith, ap length c.push_reserved.ensures.items, length-append a.items.items (c.args.item ∷ [])) in
    let place : c.args.at ≤ length a.order.items = omega (arith, c.requires.place, c.self.invariant.counted, ap (λ s. length s.items) c.self.view_is) in
    rw (c.insert_with_hint.ensures.items, number, more) (Arranges-insert a.order.items (length a.items.items) c.args.at c.self.invariant place)

pub returns-clause-in_order : goal.returns-clause-in_order
returns-clause-in_order g c =
    let a = c.self.inside in
    let number : c.len-number.result ≡ length a.items.items = c.len-number.ensures.len ∙ c.self.invariant.counted in
    ap (λ xs. picked xs c.insert_with_hint.new.self.items) c.push_reserved.ensures.items
    ∙ ap (λ ns. picked (a.items.items ++ c.args.item ∷ []) ns) (c.insert_with_hint.ensures.items ∙ ap (λ n. insert a.order.items c.args.at n) number)
    ∙ picked-insert a.items.items a.order.items c.args.at c.args.item c.self.invariant.within
    ∙ ap (λ s. insert (in_order s) c.args.at c.args.item) c.self.view_is
