-- How labels are closed
use Rattle.std.proofs.Common.{◌≡◌, ℕ, ◌+◌, ◌-◌, ◌*◌, ◌<◌, ◌≤◌, ◌⊎◌, inl, inr, Bool, true, false, ◌&&◌, List, length}
use Rattle.std.proofs.Common.{get_or, eqb, ltb, leb, arith, refl, sym, ap, ◌∙◌, subst}
use Rattle.std.specs.Prelude.{not, Contains, ◌↔◌}
use Rattle.std.specs.List.{list_any}
use Rattle.std.proofs.lemmas.Bool.{cases_Bool, cases_lt, eq-eqb, eqb-true, and_parts, and_from, and_left, le-leb, both_ways, false_from_ne_true, not-true}
use Rattle.std.proofs.lemmas.List.{get_or_past, get_or_default}
use Rattle.std.proofs.lemmas.List.Folds.{Any-from_list_any, list_any_at}
use Rattle.wait_index.specs.declared.edges.Edge.{Edge}
use Rattle.wait_index.specs.Inside.Count.{bit, count_below}
use Rattle.wait_index.specs.Edge.{edge_at, from_at, to_at, IsEdge}
use Rattle.wait_index.specs.Inside.Listing.{holds, IsListing}
use Rattle.wait_index.specs.Net.{Net, is_root, is_closed, IsReached, root, step, IsOpen, IsTakenBack, itself, beyond}
use Rattle.wait_index.specs.Net.{AreTakenBack, ClosesIn, falls_with, edges_taken_back, HasReachOf, edges_at}
use Rattle.wait_index.specs.Net.{with_all_closed}
use Rattle.wait_index.specs.Inside.Tally.{Tally, is_marked_in, is_touched_in, is_open_in, support_in, TouchesAll}
use Rattle.wait_index.specs.Inside.Step.{is_before, Follows}
use Rattle.wait_index.specs.Inside.Fall.{StillFollowed, IsFalling, HasFallen, IsSettled}
use Rattle.wait_index.proofs.CountBelowFacts.{bit-le, bit-true, bit-false, count_by-count_below, count_below-at}
use Rattle.wait_index.proofs.CountBelowFacts.{count_below-some, count_below-add, count_below-gap, count_below-mono}
use Rattle.wait_index.proofs.CountBelowFacts.{count_below-same}
use Rattle.wait_index.proofs.ListingFacts.{placed-from_holds, holds-from_placed, within-from_holds, contains-from_holds, holds-from_contains}
use Rattle.wait_index.proofs.FollowFacts.{Follows-offered}
use Rattle.wait_index.proofs.FallFacts.{WaitsOnce}
use Rattle.wait_index.proofs.NetLawFacts.{length-all_set, all_set-kept, all_set-to}

-- all marked nodes are before the end of the list
pub before_all : (t : Tally) → IsListing t.marked t.places → (n : ℕ) → is_before t (length t.marked) n ≡ is_marked_in t n
before_all t h n =
    elim (cases_Bool (is_marked_in t n)) [
      | inl e ↦
          let place = placed-from_holds t.places n e in
          let last = h.placed_within n (get_or t.places n 0 - 1) (omega (arith, place)) in
          and_from (ltb 0 (get_or t.places n 0)) (leb (get_or t.places n 0) (length t.marked)) e
          (le-leb (get_or t.places n 0) (length t.marked) (omega (arith, last))) ∙ sym e
      | inr e ↦ and_left (ltb 0 (get_or t.places n 0)) (leb (get_or t.places n 0) (length t.marked)) e ∙ sym e
    ]

-- Counts over the nodes before the end of the list are counts over the marked nodes.
count_marked : (net : Net) (t : Tally) → IsListing t.marked t.places
    → count_below (λ i. is_before t (length t.marked) (from_at net.offers i)) (length net.offers)
    ≡ count_below (λ i. is_marked_in t (from_at net.offers i)) (length net.offers)
count_marked net t h = count_below-same (λ i. is_before t (length t.marked) (from_at net.offers i))
    (λ i. is_marked_in t (from_at net.offers i)) (length net.offers) (λ i a. before_all t h (from_at net.offers i))

-- what is taken back was open
pub taken-open : (net : Net) (closing : List ℕ) (l : ℕ) → IsTakenBack net closing l → IsOpen net l
taken-open net closing l (itself c o) = o
taken-open net closing l (beyond {here = here} {node = node} {i = i} {j = j} b w r e c) =
    let o = taken-open net closing here b in
    record { not_closed = c; offered = (j, node, e, step o.offered.3 o.offered.2 o.not_closed w) }

-- what is taken back is in the reach of the labels
pub taken-near : (net : Net) (closing : List ℕ) (labels : ℕ → Bool) → HasReachOf net closing labels → (l : ℕ) → IsTakenBack net closing l → labels l ≡ true
taken-near net closing labels h l (itself c o) = h.has l c o
taken-near net closing labels h l (beyond {here = here} {node = node} {i = i} {j = j} b w r e c) =
    h.continues here node l i j (taken-near net closing labels h here b) w e

-- With more labels no fewer are taken back.
pub taken-more : (net : Net) (closing more : List ℕ) → ((l : ℕ) → Contains closing l → IsOpen net l → Contains more l)
    → (l : ℕ) → IsTakenBack net closing l → IsTakenBack net more l
taken-more net closing more h l (itself c o) = itself (h l c o) o
taken-more net closing more h l (beyond {here = here} b w r e c) = beyond (taken-more net closing more h here b) w r e c

-- what is taken back is at labels of the reach
pub taken-few : (net : Net) (closing : List ℕ) (taken labels : ℕ → Bool) → AreTakenBack net closing taken
    → HasReachOf net closing labels → edges_taken_back net taken ≤ edges_at net labels
taken-few net closing taken labels a h =
    omega (
      arith,
      count_by-count_below (λ (e : Edge). falls_with net taken e.from) net.offers (record { from = 0; to = 0 }),
      count_by-count_below (λ (e : Edge). taken e.from) net.waits (record { from = 0; to = 0 }),
      count_by-count_below (λ (e : Edge). labels e.to) net.offers (record { from = 0; to = 0 }),
      count_by-count_below (λ (e : Edge). labels e.from) net.waits (record { from = 0; to = 0 }),
      count_below-mono (λ i. falls_with net taken (from_at net.offers i)) (λ i. labels (to_at net.offers i)) (length net.offers)
          (λ i b e.
          let parts = and_parts (not (is_root net (from_at net.offers i)))
          (list_any (λ (w : Edge). eqb w.to (from_at net.offers i) && taken w.from) net.waits) e in
          let c = Any-from_list_any (λ (w : Edge). eqb w.to (from_at net.offers i) && taken w.from) net.waits parts.1 in
          let tests = and_parts (eqb c.1.to (from_at net.offers i)) (taken c.1.from) c.4 in
          let item : edge_at net.waits c.0 ≡ c.1 = get_or_default net.waits c.0 (record { from = 0; to = 0 }) c.1 c.2 ∙ c.3 in
          h.continues c.1.from (from_at net.offers i) (to_at net.offers i) c.0 i (taken-near net closing labels h c.1.from (a.only c.1.from tests.1))
          (record { within = c.2; from = ap (λ (x : Edge). x.from) item; to = ap (λ (x : Edge). x.to) item ∙ eqb-true c.1.to (from_at net.offers i) tests.0 })
          (record { within = b; from = refl; to = refl })),
      count_below-mono (λ i. taken (from_at net.waits i)) (λ i. labels (from_at net.waits i)) (length net.waits)
          (λ i b e. taken-near net closing labels h (from_at net.waits i) (a.only (from_at net.waits i) e)),
    )

-- if none of the labels is open nothing is taken back
pub none-taken : (net : Net) (closing : List ℕ) → ((l : ℕ) → Contains closing l → IsOpen net l → ⊥) → AreTakenBack net closing (λ l. false)
none-taken net closing shut = record {
  only = λ l e. absurd (both_ways false refl e);
  all = λ l b. absurd (none l b);
}
  where
    none : (l : ℕ) → IsTakenBack net closing l → ⊥
    none l (itself c o) = shut l c o
    none l (beyond {here = here} b w r e c) = none here b

-- If no label is taken back, no edge is.
pub none-edges : (net : Net) → edges_taken_back net (λ l. false) ≡ 0
none-edges net =
    omega (
      arith,
      count_by-count_below (λ (e : Edge). falls_with net (λ l. false) e.from) net.offers (record { from = 0; to = 0 }),
      count_by-count_below (λ (e : Edge). false) net.waits (record { from = 0; to = 0 }),
      count_below-gap (λ i. falls_with net (λ l. false) (from_at net.offers i)) 0 (length net.offers) (omega arith) (λ i a b. none (from_at net.offers i)),
      count_below-gap (λ i. false) 0 (length net.waits) (omega arith) (λ i a b. refl),
    )
  where
    none : (n : ℕ) → falls_with net (λ l. false) n ≡ false
    none n =
        false_from_ne_true (falls_with net (λ l. false) n) (λ e.
        let parts = and_parts (not (is_root net n)) (list_any (λ (w : Edge). eqb w.to n && false) net.waits) e in
        let a = Any-from_list_any (λ (w : Edge). eqb w.to n && false) net.waits parts.1 in
        let tests = and_parts (eqb a.1.to n) false a.4 in
        both_ways false refl tests.1)

-- When the fall is over

module _ (net : Net) (closing : List ℕ) (now : Tally) (f : HasFallen net closing now) where
  -- what is open is not touched
  pub untouched-from_open : (l : ℕ) → is_open_in now l ≡ true → is_touched_in now l ≡ true → ⊥
  untouched-from_open l o a =
      let place = placed-from_holds now.touched_places l a in
      let at : get_or now.touched_places l 0 ≡ (get_or now.touched_places l 0 - 1) + 1 = omega (arith, place) in
      let within = f.queue.placed_within l (get_or now.touched_places l 0 - 1) at in
      both_ways (is_open_in now l) (ap (is_open_in now) (sym (f.queue.placed l (get_or now.touched_places l 0 - 1) at))
      ∙ f.done (get_or now.touched_places l 0 - 1) within) o

  -- An open label still has support: a counted offer edge leads to it.
  supported-from_open : (l : ℕ) → is_open_in now l ≡ true → 0 < support_in now l
  supported-from_open l o = elim (f.open_supported l o) [ inl a ↦ a | inr a ↦ absurd (untouched-from_open l o a) ]

  -- An open label is one of the net's.
  open_within : (l : ℕ) → is_open_in now l ≡ true → l < length net.closed
  open_within l o =
      elim (cases_lt l (length now.opened)) [
        | inl a ↦ omega (arith, a, f.sizes.opened)
        | inr a ↦ absurd (both_ways (is_open_in now l) (get_or_past now.opened l false a) o)
      ]

  -- An open label is offered by a node that is still marked.
  offered_now : (l : ℕ) → is_open_in now l ≡ true → (i : ℕ) × (m : ℕ) × IsEdge net.offers i m l × (is_marked_in now m ≡ true)
  offered_now l o =
      let i = count_below-some (λ i. is_marked_in now (from_at net.offers i) && eqb (to_at net.offers i) l)
      (length net.offers) (omega (arith, supported-from_open l o, f.counted.support l (open_within l o))) in
      let parts = and_parts (is_marked_in now (from_at net.offers i.0)) (eqb (to_at net.offers i.0) l) i.2 in
      (i.0, from_at net.offers i.0, record { within = i.1; from = refl; to = eqb-true (to_at net.offers i.0) l parts.1 }, parts.0)

  -- What is still open was open in the net before the close.
  open-left : (l : ℕ) → is_open_in now l ≡ true → IsOpen net l
  open-left l o =
      let b = offered_now l o in
      record { not_closed = f.open_not_closed l o; offered = (b.0, b.1, b.2, f.sound b.1 b.3) }

-- The fall with some labels is that with others, if the same ones of them are open.
pub HasFallen-alike : (net : Net) (closing others : List ℕ) (now : Tally)
    → ((l : ℕ) → Contains closing l → IsOpen net l → Contains others l)
    → ((l : ℕ) → Contains others l → IsOpen net l → Contains closing l) → HasFallen net closing now
    → HasFallen net others now
HasFallen-alike net closing others now more less f = record {
  sizes = f.sizes;
  listing = f.listing;
  queue = f.queue;
  counted = record { support = f.counted.support; visits = f.counted.visits };
  sound = f.sound;
  roots = f.roots;
  grounded = f.grounded;
  released = f.released;
  fallen = f.fallen;
  open_not_closed = f.open_not_closed;
  open_supported = f.open_supported;
  opened = record { at = f.opened.at };
  lost = f.lost;
  shut = f.shut;
  first = λ l c o. f.first l (less l c o) o;
  near = λ l a. taken-more net closing others more l (f.near l a);
  done = f.done;
  todo = f.todo;
}

-- In a settled index

module _ (net : Net) (t : Tally) (h : IsSettled net t) (queue : IsListing t.touched t.touched_places) where
  -- No label is touched.
  pub none_touched : (l : ℕ) → is_touched_in t l ≡ true → ⊥
  none_touched l a =
      let place = placed-from_holds t.touched_places l a in
      omega (arith, place, ap length h.untouched, queue.placed_within l (get_or t.touched_places l 0 - 1) (omega (arith, place)))

  -- a marked node opens each label that it offers
  pub open-from_offer : (i m l : ℕ) → IsEdge net.offers i m l → is_marked_in t m ≡ true → l < length net.closed
      → is_closed net l ≡ false → is_open_in t l ≡ true
  open-from_offer i m l e a b c =
      let marked : is_marked_in t (from_at net.offers i) ≡ true = ap (is_marked_in t) e.from ∙ a in
      let here : (is_before t (length t.marked) (from_at net.offers i) && eqb (to_at net.offers i) l) ≡ true =
      and_from (is_before t (length t.marked) (from_at net.offers i)) (eqb (to_at net.offers i) l)
      (before_all t h.follows.steady.listing (from_at net.offers i) ∙ marked) (eq-eqb (to_at net.offers i) l e.to)
      in
      let some : 0 < support_in t l =
      omega (
        arith,
        h.follows.counted.support l b,
        count_below-at (λ k. is_before t (length t.marked) (from_at net.offers k) && eqb (to_at net.offers k) l) i
            (length net.offers) e.within here,
      ) in
      elim (h.follows.opened.at l b some c) [ inl o ↦ o | inr o ↦ absurd (none_touched l o) ]

-- ... whose edges lead to labels that are there

module _ (net : Net) (t : Tally) (h : IsSettled net t) (queue : IsListing t.touched t.touched_places) (labels : (i : ℕ)
    → i < length net.offers → to_at net.offers i < length net.closed) where
  -- An offered label is one of the net's.
  label_in : (i m l : ℕ) → IsEdge net.offers i m l → l < length net.closed
  label_in i m l e = omega (arith, labels i e.within, e.to)

  -- all that is reached is marked
  pub marked-from_reached : (n : ℕ) → IsReached net n → is_marked_in t n ≡ true
  marked-from_reached n (root e) = h.follows.steady.roots n e
  marked-from_reached n (step {node = node} {label = label} {i = i} {j = j} r e c w) =
      let opened = open-from_offer net t h queue i node label e (marked-from_reached node r) (label_in i node label e) c in
      ap (is_marked_in t) (sym w.to) ∙ h.follows.steady.released j (w.within) (ap (is_open_in t) w.from ∙ opened)

  -- a reached node is a root or awaits an open label
  grounded_of : (n : ℕ) → IsReached net n → (is_root net n ≡ true) ⊎ ((i : ℕ) × StillFollowed net t 0 0 i × (to_at net.waits i ≡ n))
  grounded_of n (root e) = inl e
  grounded_of n (step {node = node} {label = label} {i = i} {j = j} r e c w) =
      let opened = open-from_offer net t h queue i node label e (marked-from_reached node r) (label_in i node label e) c in
      inr (j, record { within = w.within; by = inl (ap (is_open_in t) w.from ∙ opened) }, w.to)

  -- What is kept as open is open by the definition.
  pub open-shown : (l : ℕ) → l < length net.closed → is_open_in t l ≡ true → IsOpen net l
  open-shown l within o =
      let b = Follows-offered net (length t.marked) t h.follows l within (h.follows.steady.open_supported l o) in
      record { not_closed = h.follows.steady.open_not_closed l o; offered = (b.0, b.1, b.2, h.follows.steady.sound b.1 b.3) }

  -- What is open by the definition is kept as open.
  pub open-from_shown : (l : ℕ) → IsOpen net l → is_open_in t l ≡ true
  open-from_shown l o =
      open-from_offer net t h queue o.offered.0 o.offered.1 l o.offered.2 (marked-from_reached o.offered.1 o.offered.3)
      (label_in o.offered.0 o.offered.1 l o.offered.2) o.not_closed

  -- open labels are touched: the fall begins
  pub IsFalling-touched : (closing : List ℕ) (new : Tally) → TouchesAll closing t new
      → IsListing new.touched new.touched_places → IsFalling net new.touched new 0 0 0
  IsFalling-touched closing new touches listing_new =
      let steady = h.follows.steady in
      subst (λ x. TouchesAll closing t x → IsListing x.touched x.touched_places → IsFalling net x.touched x 0 0 0) (sym touches.same) (λ s queue_new.
      let opened : (k : ℕ) → holds new.touched_places k ≡ true → is_open_in t k ≡ true =
      λ k a. elim (s.only k a) [ inl b ↦ absurd (none_touched net t h queue k b) | inr b ↦ b.1 ] in
      record {
        sizes = record { places = steady.sizes.places; support = steady.sizes.support; opened = steady.sizes.opened; touched = s.size ∙ steady.sizes.touched };
        listing = steady.listing;
        queue = queue_new;
        counted = record {
          support = λ k a.
              omega (
                arith,
                h.follows.counted.support k a,
                count_below-same (λ i. is_before t (length t.marked) (from_at net.offers i) && eqb (to_at net.offers i)
                    k) (λ i. is_marked_in t (from_at net.offers i) && eqb (to_at net.offers i) k) (length net.offers)
                    (λ i b. ap (λ x. x && eqb (to_at net.offers i) k) (before_all t steady.listing (from_at net.offers i))),
              );
          visits = omega (arith, h.follows.counted.visits, count_marked net t h.follows.steady.listing);
        };
        sound = steady.sound;
        roots = steady.roots;
        grounded = λ n m.
            elim (grounded_of n (steady.sound n m)) [
              | inl a ↦ inl a
              | inr a ↦ inr (a.0, record { within = a.1.within; by = a.1.by }, a.2)
            ];
        released = λ i a. steady.released i a.within (elim a.by [ inl b ↦ b | inr b ↦ absurd (omega (arith, b.1)) ]);
        fallen = λ n i r m a b d. absurd (both_ways (is_marked_in t n) m (marked-from_reached n r));
        open_not_closed = steady.open_not_closed;
        open_supported = λ k a. inl (steady.open_supported k a);
        opened = record {
          at = λ k a b d. elim (h.follows.opened.at k a b d) [ inl e ↦ inl e | inr e ↦ absurd (none_touched net t h queue k e) ];
        };
        lost = λ n r m. absurd (both_ways (is_marked_in t n) m (marked-from_reached n r));
        shut = λ n i r a b d.
            inl (open-from_offer net t h queue i n (to_at net.offers i) (record { within = a; from = b; to = refl }) (marked-from_reached n r) (labels i a) d);
        first = λ k c o. holds-from_contains new.touched new.touched_places queue_new k c;
        near = λ k a.
            itself (contains-from_holds new.touched new.touched_places queue_new k a)
            (open-shown k (omega (arith, within-from_holds new.touched_places k a, s.size, steady.sizes.touched)) (opened k a));
        done = λ k a. absurd (omega (arith, a));
        todo = λ k a b. opened (get_or new.touched k 0) (holds-from_placed new.touched_places (get_or new.touched k 0) (omega (arith, queue_new.listed k b)));
      }) touches listing_new

  -- The touched labels are the open ones of the list, so what fell with those fell with these.
  pub HasFallen-listed : (closing : List ℕ) (new now : Tally) → TouchesAll closing t new
      → IsListing new.touched new.touched_places → HasFallen net new.touched now → HasFallen net closing now
  HasFallen-listed closing new now touches queue_new =
      HasFallen-alike net new.touched closing now
      (λ l c o. elim (touches.only l (holds-from_contains new.touched new.touched_places queue_new l c))
      [ inl a ↦ absurd (none_touched net t h queue l a) | inr a ↦ a.0 ])
      (λ l c o. contains-from_holds new.touched new.touched_places queue_new l (touches.all l c (open-from_shown l o)))

  -- Counts of nodes that are reached and labels that they open are not above those here.
  visits_within : (now : Tally) → ((n : ℕ) → is_marked_in now n ≡ true → IsReached net n)
      → ((l : ℕ) → is_open_in now l ≡ true → (i : ℕ) × (m : ℕ) × IsEdge net.offers i m l × IsReached net m
      × (is_closed net l ≡ false))
      → count_below (λ i. is_marked_in now (from_at net.offers i)) (length net.offers) + count_below
      (λ i. is_open_in now (from_at net.waits i)) (length net.waits) ≤ t.visits
  visits_within now sound offered =
      omega (
        arith,
        h.follows.counted.visits,
        count_marked net t h.follows.steady.listing,
        count_below-mono (λ i. is_marked_in now (from_at net.offers i)) (λ i. is_marked_in t (from_at net.offers i))
            (length net.offers) (λ i a b. marked-from_reached (from_at net.offers i) (sound (from_at net.offers i) b)),
        count_below-mono (λ i. is_open_in now (from_at net.waits i)) (λ i. is_open_in t (from_at net.waits i)) (length net.waits)
            (λ i a b. let o = offered (from_at net.waits i) b in
            open-from_offer net t h queue o.0 o.1 (from_at net.waits i) o.2 (marked-from_reached o.1 o.3)
            (label_in o.0 o.1 (from_at net.waits i) o.2) o.4),
      )

  -- The fall is over.

  module _ (closing : List ℕ) (now : Tally) (f : HasFallen net closing now) where
    -- A touched label is taken back.
    touched-taken : (l : ℕ) → is_touched_in now l ≡ true → IsTakenBack net closing l
    touched-taken = f.near

    -- What is open after the fall was open before it.
    opened_before : (l : ℕ) → is_open_in now l ≡ true → is_open_in t l ≡ true
    opened_before l o =
        let b = offered_now net closing now f l o in
        open-from_offer net t h queue b.0 b.1 l b.2 (marked-from_reached b.1 (f.sound b.1 b.3)) (open_within net closing now f l o) (f.open_not_closed l o)

    -- an open label is still open or is touched, and no other label is either
    open_bit : (l : ℕ) → l < length net.closed → bit (is_open_in t l) ≡ bit (is_open_in now l) + bit (is_touched_in now l)
    open_bit l within =
        elim (cases_Bool (is_touched_in now l)) [
          | inl a ↦
              let shut : is_open_in now l ≡ false = false_from_ne_true (is_open_in now l) (λ o. untouched-from_open net closing now f l o a) in
              omega (
                arith,
                bit-true (is_touched_in now l) a,
                bit-false (is_open_in now l) shut,
                bit-true (is_open_in t l) (open-from_shown l (taken-open net closing l (touched-taken l a))),
              )
          | inr a ↦
              elim (cases_Bool (is_open_in t l)) [
                | inl o ↦
                    let b = Follows-offered net (length t.marked) t h.follows l within (h.follows.steady.open_supported l o) in
                    let still : (is_open_in now (to_at net.offers b.0) ≡ true) ⊎ (is_touched_in now (to_at net.offers b.0) ≡ true) =
                    f.shut b.1 b.0 (h.follows.steady.sound b.1 b.3) b.2.within b.2.from (ap (is_closed net) b.2.to ∙ h.follows.steady.open_not_closed l o)
                    in
                    elim still [
                      | inl d ↦ omega (
                        arith,
                        bit-false (is_touched_in now l) a,
                        bit-true (is_open_in t l) o,
                        bit-true (is_open_in now l) (ap (is_open_in now) (sym b.2.to) ∙ d),
                      )
                      | inr d ↦ absurd (both_ways (is_touched_in now l) a (ap (is_touched_in now) (sym b.2.to) ∙ d))
                    ]
                | inr o ↦
                    let shut : is_open_in now l ≡ false = false_from_ne_true (is_open_in now l) (λ d. both_ways (is_open_in t l) o (opened_before l d)) in
                    omega (arith, bit-false (is_touched_in now l) a, bit-false (is_open_in t l) o, bit-false (is_open_in now l) shut)
              ]
        ]

    -- the wait edge of a node that falls

    module _ (once : WaitsOnce net) where
      -- A node that awaits a touched label falls, unless it is a root.
      falls-from : (i : ℕ) → i < length net.waits → is_root net (to_at net.waits i) ≡ false
          → is_touched_in now (from_at net.waits i) ≡ true
          → falls_with net (is_touched_in now) (to_at net.waits i) ≡ true
      falls-from i within r a =
          and_from (not (is_root net (to_at net.waits i))) (list_any (λ (e : Edge). eqb e.to (to_at net.waits i) && is_touched_in now e.from) net.waits)
          (ap not r)
          (list_any_at (λ (e : Edge). eqb e.to (to_at net.waits i) && is_touched_in now e.from) net.waits i
          (record { from = 0; to = 0 }) within
          (and_from (eqb (to_at net.waits i) (to_at net.waits i)) (is_touched_in now (from_at net.waits i))
          (eq-eqb (to_at net.waits i) (to_at net.waits i) refl) a))

      -- A node that falls is not a root and awaits a touched label.
      falls-wait : (n : ℕ) → falls_with net (is_touched_in now) n ≡ true
          → (is_root net n ≡ false) × ((i : ℕ) × (i < length net.waits) × (to_at net.waits i ≡ n)
          × (is_touched_in now (from_at net.waits i) ≡ true))
      falls-wait n e =
          let parts = and_parts (not (is_root net n)) (list_any (λ (e : Edge). eqb e.to n && is_touched_in now e.from) net.waits) e in
          let a = Any-from_list_any (λ (e : Edge). eqb e.to n && is_touched_in now e.from) net.waits parts.1 in
          let tests = and_parts (eqb a.1.to n) (is_touched_in now a.1.from) a.4 in
          let item : edge_at net.waits a.0 ≡ a.1 = get_or_default net.waits a.0 (record { from = 0; to = 0 }) a.1 a.2 ∙ a.3 in (
            not-true (is_root net n) parts.0,
            (a.0, a.2, ap (λ (x : Edge). x.to) item ∙ eqb-true a.1.to n tests.0, ap (λ (x : Edge). is_touched_in now x.from) item ∙ tests.1),
          )

      -- a marked node is still marked or falls, and no other node is or does
      marked_bit : (n : ℕ) → bit (is_marked_in t n) ≡ bit (is_marked_in now n) + bit (falls_with net (is_touched_in now) n)
      marked_bit n =
          elim (cases_Bool (falls_with net (is_touched_in now) n)) [
            | inl e ↦
                let fall = falls-wait n e in
                let w = fall.1 in
                let out : is_marked_in now n ≡ false =
                false_from_ne_true (is_marked_in now n) (λ m.
                elim (f.grounded n m) [
                  | inl r ↦ both_ways (is_root net n) fall.0 r
                  | inr g ↦
                      let same : g.0 ≡ w.0 = once g.0 w.0 g.1.within w.1 (g.2 ∙ sym w.2) in
                      elim g.1.by [
                        | inl o ↦ untouched-from_open net closing now f (from_at net.waits w.0)
                            (ap (λ k. is_open_in now (from_at net.waits k)) (sym same) ∙ o) w.3
                        | inr o ↦ omega (arith, o.1)
                      ]
                ])
                in
                let o = taken-open net closing (from_at net.waits w.0) (touched-taken (from_at net.waits w.0) w.3) in
                let r : IsReached net n = step o.offered.3 o.offered.2 o.not_closed (record { within = w.1; from = refl; to = w.2 }) in
                omega (
                  arith,
                  bit-true (falls_with net (is_touched_in now) n) e,
                  bit-false (is_marked_in now n) out,
                  bit-true (is_marked_in t n) (marked-from_reached n r),
                )
            | inr e ↦
                elim (cases_Bool (is_marked_in now n)) [
                  | inl m ↦ omega (
                    arith,
                    bit-false (falls_with net (is_touched_in now) n) e,
                    bit-true (is_marked_in now n) m,
                    bit-true (is_marked_in t n) (marked-from_reached n (f.sound n m)),
                  )
                  | inr m ↦
                      let out : is_marked_in t n ≡ false =
                      false_from_ne_true (is_marked_in t n) (λ a.
                      let w = f.lost n (h.follows.steady.sound n a) m in
                      let not_root : is_root net n ≡ false = false_from_ne_true (is_root net n) (λ r. both_ways (is_marked_in now n) m (f.roots n r)) in
                      both_ways (falls_with net (is_touched_in now) n) e
                      (ap (falls_with net (is_touched_in now)) (sym w.2)
                      ∙ falls-from w.0 w.1 (ap (is_root net) w.2 ∙ not_root) w.3))
                      in
                      omega (arith, bit-false (falls_with net (is_touched_in now) n) e, bit-false (is_marked_in now n) m, bit-false (is_marked_in t n) out)
                ]
          ]

      -- the visits fall by the edges that are taken back
      pub visits_taken : (waits : (i : ℕ) → i < length net.waits → from_at net.waits i < length net.closed)
          → t.visits ≡ now.visits + edges_taken_back net (is_touched_in now)
      visits_taken waits =
          omega (
            arith,
            count_marked net t h.follows.steady.listing,
            h.follows.counted.visits,
            f.counted.visits,
            count_below-add (λ i. is_marked_in t (from_at net.offers i)) (λ i. is_marked_in now (from_at net.offers i))
                (λ i. falls_with net (is_touched_in now) (from_at net.offers i)) (length net.offers)
                (λ i a. marked_bit (from_at net.offers i)),
            count_below-add (λ i. is_open_in t (from_at net.waits i)) (λ i. is_open_in now (from_at net.waits i))
                (λ i. is_touched_in now (from_at net.waits i)) (length net.waits)
                (λ i a. open_bit (from_at net.waits i) (waits i a)),
            count_by-count_below (λ (e : Edge). falls_with net (is_touched_in now) e.from) net.offers (record { from = 0; to = 0 }),
            count_by-count_below (λ (e : Edge). is_touched_in now e.from) net.waits (record { from = 0; to = 0 }),
          )

      -- the touched labels are those that are taken back
      pub taken-touched : (l : ℕ) → IsTakenBack net closing l → is_touched_in now l ≡ true
      taken-touched l (itself c o) = f.first l c o
      taken-touched l (beyond {here = here} {node = node} {i = i} {j = j} b w r e c) =
          let a = taken-touched here b in
          let o = taken-open net closing here b in
          let reached : IsReached net node = step o.offered.3 o.offered.2 o.not_closed w in
          let falls : falls_with net (is_touched_in now) node ≡ true =
          ap (falls_with net (is_touched_in now)) (sym w.to) ∙ falls-from i w.within (ap (is_root net) w.to ∙ r) (ap (is_touched_in now) w.from ∙ a)
          in
          let out : is_marked_in now node ≡ false =
          false_from_ne_true (is_marked_in now node)
          (λ m. omega (
            arith,
            marked_bit node,
            bit-le (is_marked_in t node),
            bit-true (is_marked_in now node) m,
            bit-true (falls_with net (is_touched_in now) node) falls,
          )) in
          elim (f.shut node j reached e.within e.from (ap (is_closed net) e.to ∙ c)) [
            | inl d ↦ ap (is_touched_in now) (sym e.to) ∙ f.fallen node j reached out e.within e.from d
            | inr d ↦ ap (is_touched_in now) (sym e.to) ∙ d
          ]

      -- The touched labels are exactly those that are taken back, so a close can count its work by
      -- them.
      pub touched-all : AreTakenBack net closing (is_touched_in now)
      touched-all = record { only = touched-taken; all = taken-touched }

-- The net with labels closed

module _ (net : Net) (closing : List ℕ) where
  -- A label that is not closed, and not among those to be closed, is not closed afterwards.
  pub closed-other : (k : ℕ) → (Contains closing k → ⊥) → is_closed net k ≡ false → is_closed (with_all_closed net closing) k ≡ false
  closed-other k ne c =
      false_from_ne_true (is_closed (with_all_closed net closing) k) (λ e.
      elim (all_set-to closing net.closed k e) [ inl a ↦ both_ways (is_closed net k) c a | inr a ↦ ne a ])

  -- what is not closed now was not
  pub not_closed_before : (k : ℕ) → is_closed (with_all_closed net closing) k ≡ false → is_closed net k ≡ false
  not_closed_before k e = false_from_ne_true (is_closed net k)
      (λ c. both_ways (is_closed (with_all_closed net closing) k) e (all_set-kept closing net.closed k c))

  -- What is reached after the close was reached before it.
  pub reached-before : (n : ℕ) → IsReached (with_all_closed net closing) n → IsReached net n
  reached-before n (root e) = root e
  reached-before n (step {node = node} {label = k} {i = i} {j = j} r e c w) = step (reached-before node r) e (not_closed_before k c) w

-- Labels that are not open are closed, and nothing changes.

module _ (net : Net) (t : Tally) (h : IsSettled net t) (queue : IsListing t.touched t.touched_places) (labels : (i : ℕ)
    → i < length net.offers → to_at net.offers i < length net.closed) (closing : List ℕ) (shut : (l : ℕ)
    → Contains closing l → is_open_in t l ≡ false) where
  -- To close labels that are not open leaves reached what was.
  reached-without : (n : ℕ) → IsReached net n → IsReached (with_all_closed net closing) n
  reached-without n (root e) = root e
  reached-without n (step {node = node} {label = k} {i = i} {j = j} r e c w) =
      let opened = open-from_offer net t h queue i node k e (marked-from_reached net t h queue labels node r) (label_in net t h queue labels i node k e) c in
      step (reached-without node r) e (closed-other net closing k (λ a. both_ways (is_open_in t k) (shut k a) opened) c) w

  -- A settled index is so for the net with the labels closed, too, without any work.
  pub IsSettled-shut : IsSettled (with_all_closed net closing) t
  IsSettled-shut =
      let steady = h.follows.steady in
      let size = length-all_set closing net.closed in
      record {
        follows = record {
          steady = record {
            sizes = record {
              places = steady.sizes.places;
              support = steady.sizes.support ∙ sym size;
              opened =
                  steady.sizes.opened ∙ sym size;
              touched = steady.sizes.touched ∙ sym size;
            };
            listing = steady.listing;
            sound = λ n a. reached-without n (steady.sound n a);
            roots = steady.roots;
            released = steady.released;
            open_not_closed = λ k o. closed-other net closing k (λ a. both_ways (is_open_in t k) (shut k a) o) (steady.open_not_closed k o);
            open_supported = steady.open_supported;
          };
          counted = record { support = λ k a. h.follows.counted.support k (omega (arith, a, size)); visits = h.follows.counted.visits };
          opened = record { at = λ k a s c. h.follows.opened.at k (omega (arith, a, size)) s (not_closed_before net closing k c) };
        };
        untouched = h.untouched;
      }

-- When the fall is over, the labels are closed, and what is left is reached without them.

module _ (net : Net) (once : WaitsOnce net) (closing : List ℕ) (now : Tally) (f : HasFallen net closing now) where
  -- What is still open is not among the labels to be closed.
  apart_from_open : (k : ℕ) → is_open_in now k ≡ true → Contains closing k → ⊥
  apart_from_open k o c = untouched-from_open net closing now f k o (f.first k c (open-left net closing now f k o))

  -- what is still marked is reached without the labels
  reached-after : (n : ℕ) → IsReached net n → is_marked_in now n ≡ true → IsReached (with_all_closed net closing) n
  reached-after n (root e) m = root e
  reached-after n (step {node = node} {label = k} {i = i} {j = j} r e c w) m =
      elim (f.grounded n m) [
        | inl a ↦ root a
        | inr a ↦
            let same : a.0 ≡ j = once a.0 j a.1.within w.within (a.2 ∙ sym w.to) in
            let from : from_at net.waits a.0 ≡ k = ap (from_at net.waits) same ∙ w.from in
            let opened : is_open_in now k ≡ true = ap (is_open_in now) (sym from) ∙ elim a.1.by [ inl o ↦ o | inr o ↦ absurd (omega (arith, o.1)) ] in
            elim (cases_Bool (is_marked_in now node)) [
              | inl b ↦ step (reached-after node r b) e (closed-other net closing k (apart_from_open k opened) c) w
              | inr b ↦
                  let touched = f.fallen node i r b e.within e.from (ap (is_open_in now) e.to ∙ opened) in
                  absurd (untouched-from_open net closing now f k opened (ap (is_touched_in now) (sym e.to) ∙ touched))
            ]
      ]

  -- The marks fit the net with the labels closed, so the following of edges can continue from
  -- there.
  pub Follows-fallen : Follows (with_all_closed net closing) now (length now.marked) 0 0
  Follows-fallen =
      let size = length-all_set closing net.closed in
      record {
        steady = record {
          sizes = record {
            places = f.sizes.places;
            support = f.sizes.support ∙ sym size;
            opened =
                f.sizes.opened ∙ sym size;
            touched = f.sizes.touched ∙ sym size;
          };
          listing = f.listing;
          sound = λ n a. reached-after n (f.sound n a) a;
          roots = f.roots;
          released = λ i a o. f.released i (record { within = a; by = inl o });
          open_not_closed = λ k o. closed-other net closing k (apart_from_open k o) (f.open_not_closed k o);
          open_supported = supported-from_open net closing now f;
        };
        counted = record {
          support = λ k a.
              omega (
                arith,
                f.counted.support k (omega (arith, a, size)),
                count_below-same (λ i. is_before now (length now.marked) (from_at net.offers i) && eqb
                    (to_at net.offers i) k) (λ i. is_marked_in now (from_at net.offers i) && eqb (to_at net.offers i) k)
                    (length net.offers)
                    (λ i b. ap (λ x. x && eqb (to_at net.offers i) k) (before_all now f.listing (from_at net.offers i))),
              );
          visits =
              omega (
                arith,
                f.counted.visits,
                count_below-same (λ i. is_before now (length now.marked) (from_at net.offers i))
                    (λ i. is_marked_in now (from_at net.offers i)) (length net.offers)
                    (λ i a. before_all now f.listing (from_at net.offers i)),
              );
        };
        opened = record { at = λ k a s c. f.opened.at k (omega (arith, a, size)) s (not_closed_before net closing k c) };
      }

-- Closing labels never leaves more followed edges.
pub visits_after : (net : Net) (t : Tally) (h : IsSettled net t) (queue : IsListing t.touched t.touched_places)
    (labels : (i : ℕ) → i < length net.offers → to_at net.offers i < length net.closed) (closing : List ℕ) (new : Tally)
    → IsSettled (with_all_closed net closing) new → new.visits ≤ t.visits
visits_after net t h queue labels closing new k =
    omega (
      arith,
      k.follows.counted.visits,
      count_marked net new k.follows.steady.listing,
      visits_within net t h queue labels new (λ n a. reached-before net closing n (k.follows.steady.sound n a))
          (λ m o.
          let within : m < length (with_all_closed net closing).closed =
          elim (cases_lt m (length new.opened)) [
            | inl a ↦ omega (arith, a, k.follows.steady.sizes.opened)
            | inr a ↦ absurd (both_ways (is_open_in new m) (get_or_past new.opened m false a) o)
          ]
          in
          let b = Follows-offered (with_all_closed net closing) (length new.marked) new k.follows m within (k.follows.steady.open_supported m o) in (
            b.0,
            b.1,
            b.2,
            reached-before net closing b.1 (k.follows.steady.sound b.1 b.3),
            not_closed_before net closing m (k.follows.steady.open_not_closed m o),
          )),
    )

-- How much work a close is

-- Closing labels none of which is open takes no work.
pub ClosesIn-shut : (net : Net) (closing : List ℕ) (visits : ℕ) → ((l : ℕ) → Contains closing l → IsOpen net l → ⊥) → ClosesIn net closing visits visits 0
ClosesIn-shut net closing visits shut = record {
  labels = λ l. false;
  taken_back = none-taken net closing shut;
  again = 0;
  visits = omega (arith, none-edges net);
  work = omega (arith, none-edges net);
}

module _ (net : Net) (t : Tally) (h : IsSettled net t) (queue : IsListing t.touched t.touched_places) (labels : (i : ℕ)
    → i < length net.offers → to_at net.offers i < length net.closed) (waits : (i : ℕ) → i < length net.waits
    → from_at net.waits i < length net.closed) (once : WaitsOnce net) (closing : List ℕ) (now : Tally)
    (f : HasFallen net closing now) where
  -- The fall never raises the visits, so the difference does not underflow.
  pub visits_fall : now.visits ≤ t.visits
  visits_fall = omega (arith, visits_taken net t h queue labels closing now f once waits)

  -- A close works once for each visit that the fall takes away and for each that comes after it.
  pub ClosesIn-open : (after : ℕ) → now.visits ≤ after → ClosesIn net closing t.visits after ((t.visits - now.visits) + (after - now.visits))
  ClosesIn-open after l = record {
    labels = is_touched_in now;
    taken_back = touched-all net t h queue labels closing now f once;
    again = after - now.visits;
    visits = omega (arith, l, visits_taken net t h queue labels closing now f once waits);
    work = omega (arith, l, visits_taken net t h queue labels closing now f once waits);
  }

-- no more work than twice for each edge at labels of the reach, if the visits do not grow
pub ClosesIn-near : (net : Net) (closing : List ℕ) (before after work : ℕ) (labels : ℕ → Bool)
    → ClosesIn net closing before after work → after ≤ before → HasReachOf net closing labels
    → work ≤ 2 * edges_at net labels
ClosesIn-near net closing before after work labels c l h = omega (arith, c.visits, c.work, l, taken-few net closing c.labels labels c.taken_back h)

-- The work of a close is one number.
pub ClosesIn-one : (net : Net) (closing others : List ℕ) (before after work other : ℕ)
    → ((l : ℕ) → (Contains closing l ↔ Contains others l)) → ClosesIn net closing before after work
    → ClosesIn net others before after other → work ≡ other
ClosesIn-one net closing others before after work other same a b =
    omega (
      arith,
      a.visits,
      a.work,
      b.visits,
      b.work,
      taken-same closing others (λ l c. (same l).0 c) a.labels b.labels a.taken_back b.taken_back,
      taken-same others closing (λ l c. (same l).1 c) b.labels a.labels b.taken_back a.taken_back,
    )
  where
    fewer_fall : (p q : ℕ → Bool) → ((l : ℕ) → p l ≡ true → q l ≡ true) → (n : ℕ) → falls_with net p n ≡ true → falls_with net q n ≡ true
    fewer_fall p q k n e =
        let parts = and_parts (not (is_root net n)) (list_any (λ (w : Edge). eqb w.to n && p w.from) net.waits) e in
        let c = Any-from_list_any (λ (w : Edge). eqb w.to n && p w.from) net.waits parts.1 in
        let tests = and_parts (eqb c.1.to n) (p c.1.from) c.4 in
        let item : edge_at net.waits c.0 ≡ c.1 = get_or_default net.waits c.0 (record { from = 0; to = 0 }) c.1 c.2 ∙ c.3 in
        let test : (eqb (to_at net.waits c.0) n && q (from_at net.waits c.0)) ≡ true =
        ap (λ (w : Edge). eqb w.to n && q w.from) item ∙ and_from (eqb c.1.to n) (q c.1.from) tests.0 (k c.1.from tests.1)
        in
        and_from (not (is_root net n)) (list_any (λ (w : Edge). eqb w.to n && q w.from) net.waits) parts.0
        (list_any_at (λ (w : Edge). eqb w.to n && q w.from) net.waits c.0 (record { from = 0; to = 0 }) c.2 test)

    taken-same : (xs ys : List ℕ) → ((l : ℕ) → Contains xs l → Contains ys l) → (p q : ℕ → Bool) → AreTakenBack net xs p
        → AreTakenBack net ys q → edges_taken_back net p ≤ edges_taken_back net q
    taken-same xs ys more p q x y =
        let fewer : (l : ℕ) → p l ≡ true → q l ≡ true = λ l e. y.all l (taken-more net xs ys (λ k c o. more k c) l (x.only l e)) in
        omega (
          arith,
          count_by-count_below (λ (e : Edge). falls_with net p e.from) net.offers (record { from = 0; to = 0 }),
          count_by-count_below (λ (e : Edge). p e.from) net.waits (record { from = 0; to = 0 }),
          count_by-count_below (λ (e : Edge). falls_with net q e.from) net.offers (record { from = 0; to = 0 }),
          count_by-count_below (λ (e : Edge). q e.from) net.waits (record { from = 0; to = 0 }),
          count_below-mono (λ i. falls_with net p (from_at net.offers i)) (λ i. falls_with net q (from_at net.offers i))
              (length net.offers) (λ i a e. fewer_fall p q fewer (from_at net.offers i) e),
          count_below-mono (λ i. p (from_at net.waits i)) (λ i. q (from_at net.waits i)) (length net.waits) (λ i a e. fewer (from_at net.waits i) e),
        )
