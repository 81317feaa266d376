-- An item that the search finds came before; one that it does not find goes to its end.
use Rattle.std.proofs.Common.{◌≡◌, ◌∙◌, Some, true, false, sym, subst}
use Rattle.std.specs.Prelude.{IfSome, slice_get}
use Rattle.sorted_order.specs.Sequence.{Sequence}
use Rattle.replica_core.specs.Inside.Earlier.{AreNoted, Front, passed, has_equal}
use Rattle.replica_core.proofs.EarlierFacts.{noted-sought, noted-found, noted-missing, noted-again, noted-more, noted-if, place-within}
use Rattle.replica_core.proofs.earlier.Earlier.is_repeat.Goals as goal

pub find-requires-clause-rising : goal.find-requires-clause-rising
find-requires-clause-rising g c =
    let noted = subst (λ o. IfSome o (λ (s : Sequence). AreNoted g.T.Ord.cmp c.self.inside.items.now c.self.inside.count s.items))
    (sym c.take.ensures.value ∙ c.in-Some.is) c.self.invariant in
    rw (c.new.ensures.probe, c.new.ensures.items)
    (noted-sought g.T.Ord.cmp g.met.T.Ord.total c.self.inside.items.now c.self.inside.count c.in-Some.order.items noted c.args.next.now)

pub invariant_of-self-in-Ok : goal.invariant_of-self-in-Ok
invariant_of-self-in-Ok g c =
    let noted = subst (λ o. IfSome o (λ (s : Sequence). AreNoted g.T.Ord.cmp c.self.inside.items.now c.self.inside.count s.items))
    (sym c.take.ensures.value ∙ c.in-Some.is) c.self.invariant in
    let at : slice_get c.self.inside.items.now c.self.inside.count ≡ Some c.args.next.now =
    subst (λ (f : Front g.row.T.Denot). slice_get f.items f.count ≡ Some c.args.next.now) (sym c.self.view_is) c.requires in
    let low = place-within c.self.inside.items.now c.self.inside.count c.args.next.now at in
    let found = rw (c.new.ensures.probe, c.new.ensures.items) at c.in-Ok.ensures in
    noted-again g.T.Ord.cmp g.met.T.Ord.total c.self.inside.items.now c.self.inside.count c.in-Some.order.items noted c.args.next.now at low
    (noted-found g.T.Ord.cmp g.met.T.Ord.total c.self.inside.items.now c.self.inside.count c.in-Some.order.items noted
    c.args.next.now c.in-Ok.field-0 found)

pub invariant_of-self-in-Err : goal.invariant_of-self-in-Err
invariant_of-self-in-Err g c =
    let noted = subst (λ o. IfSome o (λ (s : Sequence). AreNoted g.T.Ord.cmp c.self.inside.items.now c.self.inside.count s.items))
    (sym c.take.ensures.value ∙ c.in-Some.is) c.self.invariant in
    let at : slice_get c.self.inside.items.now c.self.inside.count ≡ Some c.args.next.now =
    subst (λ (f : Front g.row.T.Denot). slice_get f.items f.count ≡ Some c.args.next.now) (sym c.self.view_is) c.requires in
    let low = place-within c.self.inside.items.now c.self.inside.count c.args.next.now at in
    let missing = rw (c.new.ensures.probe, c.new.ensures.items) at c.in-Err.ensures in
    let here = missing.within in
    noted-if g.T.Ord.cmp c.self.inside.items.now _ _ c.with_number.result c.with_number.ensures
    (noted-more g.T.Ord.cmp g.met.T.Ord.total c.self.inside.items.now c.self.inside.count c.in-Some.order.items noted
    c.args.next.now c.in-Err.place at low here missing)

pub returns-in-Ok-clause-repeat : goal.returns-in-Ok-clause-repeat
returns-in-Ok-clause-repeat g c =
    let noted = subst (λ o. IfSome o (λ (s : Sequence). AreNoted g.T.Ord.cmp c.self.inside.items.now c.self.inside.count s.items))
    (sym c.take.ensures.value ∙ c.in-Some.is) c.self.invariant in
    let found = rw (c.new.ensures.probe, c.new.ensures.items) at c.in-Ok.ensures in
    subst (λ (f : Front g.row.T.Denot). true ≡ has_equal g.T.Ord.cmp (passed f) c.args.next.now) c.self.view_is
    (noted-found g.T.Ord.cmp g.met.T.Ord.total c.self.inside.items.now c.self.inside.count c.in-Some.order.items noted c.args.next.now c.in-Ok.field-0 found)

pub returns-in-Err-clause-repeat : goal.returns-in-Err-clause-repeat
returns-in-Err-clause-repeat g c =
    let noted = subst (λ o. IfSome o (λ (s : Sequence). AreNoted g.T.Ord.cmp c.self.inside.items.now c.self.inside.count s.items))
    (sym c.take.ensures.value ∙ c.in-Some.is) c.self.invariant in
    let missing = rw (c.new.ensures.probe, c.new.ensures.items) at c.in-Err.ensures in
    subst (λ (f : Front g.row.T.Denot). false ≡ has_equal g.T.Ord.cmp (passed f) c.args.next.now) c.self.view_is
    (noted-missing g.T.Ord.cmp g.met.T.Ord.total c.self.inside.items.now c.self.inside.count c.in-Some.order.items noted c.args.next.now c.in-Err.place missing)
