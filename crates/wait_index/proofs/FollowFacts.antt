-- How edges are followed, one after another
use Rattle.std.proofs.Common.{◌≡◌, ◌≢◌, ℕ, ◌+◌, ◌-◌, ◌<◌, ◌≤◌, ◌⊎◌, inl, inr, Bool, true, false, ◌&&◌, List, length}
use Rattle.std.proofs.Common.{get_or, set, take, eqb, ltb, leb, arith, refl, sym, ap, ◌∙◌, subst}
use Rattle.std.proofs.lemmas.Bool.{cases_eq, cases_lt, ne_eqb, eq-eqb, eqb-true, and_left, and_from, and_parts, lt-ltb, le-ltb, le-leb, lt-leb, both_ways}
use Rattle.std.proofs.lemmas.List.{length-take, take_all, length-set, get_or-set_same, get_or-set_other, get_or-take}
use Rattle.wait_index.specs.Inside.Count.{bit, count_below}
use Rattle.wait_index.specs.Edge.{from_at, to_at, IsEdge}
use Rattle.wait_index.specs.Inside.Links.{IsLink, IsLast}
use Rattle.wait_index.specs.Inside.Listing.{holds, IsListing}
use Rattle.wait_index.specs.Net.{Net, is_closed, step}
use Rattle.wait_index.specs.Inside.Tally.{Tally, is_marked_in, is_touched_in, is_open_in, support_in, waits_of, Leaves, Opens, SettlesLabel, Supports}
use Rattle.wait_index.specs.Inside.Step.{is_before, IsSteady, IsCounted, IsOpened, Follows, Spreads}
use Rattle.wait_index.proofs.CountBelowFacts.{bit-true, bit-false, count_below-more, count_below-le, count_below-add, count_below-same, count_below-some}
use Rattle.wait_index.proofs.LinkFacts.{IsLink-last, count_owned, count_owned-step, count_owned_and, count_owned_and-step}
use Rattle.wait_index.proofs.ListingFacts.{placed-from_holds, holds-from_placed}
use Rattle.wait_index.proofs.ReleaseFacts.{front-trans}

-- If the first marks do not change, nodes keep their places.

module _ (items places newer_items newer_places : List ℕ) (a : IsListing items places)
    (b : IsListing newer_items newer_places) (front : take (length items) newer_items ≡ items) where
  -- The newer list is not shorter.
  longer : length items ≤ length newer_items
  longer = omega (arith, length-take (length items) newer_items, ap length front)

  -- The items of the older list keep their places.
  item_kept : (i : ℕ) → i < length items → get_or newer_items i 0 ≡ get_or items i 0
  item_kept i l = sym (get_or-take (length items) newer_items i 0 l) ∙ ap (λ xs. get_or xs i 0) front

  -- A number that was listed keeps its place.
  pub place_kept : (n : ℕ) → 0 < get_or places n 0 → get_or newer_places n 0 ≡ get_or places n 0
  place_kept n l =
      let i = get_or places n 0 - 1 in
      let at : get_or places n 0 ≡ i + 1 = omega (arith, l) in
      let within = a.placed_within n i at in
      let item : get_or newer_items i 0 ≡ n = item_kept i within ∙ a.placed n i at in
      ap (λ k. get_or newer_places k 0) (sym item) ∙ b.listed i (omega (arith, within, longer)) ∙ sym at

  -- A number that was not listed is not listed, or comes after the older list.
  pub place_later : (n : ℕ) → get_or places n 0 ≡ 0 → (get_or newer_places n 0 ≡ 0) ⊎ (length items < get_or newer_places n 0)
  place_later n e =
      let place = get_or newer_places n 0 in
      elim (cases_eq place 0) [
        | inl z ↦ inl z
        | inr z ↦
            let at : get_or newer_places n 0 ≡ (get_or newer_places n 0 - 1) + 1 = omega (arith, z) in
            elim (cases_lt (get_or newer_places n 0 - 1) (length items)) [
              | inl l ↦
                  let item : get_or items (get_or newer_places n 0 - 1) 0 ≡ n =
                  sym (item_kept (get_or newer_places n 0 - 1) l) ∙ b.placed n (get_or newer_places n 0 - 1) at in
                  absurd (omega (arith, e, ap (λ k. get_or places k 0) item, a.listed (get_or newer_places n 0 - 1) l))
              | inr l ↦ inr (omega (arith, at, l))
            ]
      ]

-- the first marked nodes are still the first
pub before_kept : (old new : Tally) (cursor : ℕ) → IsListing old.marked old.places → IsListing new.marked new.places
    → take (length old.marked) new.marked ≡ old.marked → cursor ≤ length old.marked → (n : ℕ)
    → is_before new cursor n ≡ is_before old cursor n
before_kept old new cursor a b front l n =
    elim (cases_eq (get_or old.places n 0) 0) [
      | inl z ↦
          let was : is_before old cursor n ≡ false =
          and_left (ltb 0 (get_or old.places n 0)) (leb (get_or old.places n 0) cursor)
          (le-ltb 0 (get_or old.places n 0) (omega (arith, z))) in
          elim (place_later old.marked old.places new.marked new.places a b front n z) [
            | inl w ↦ and_left (ltb 0 (get_or new.places n 0)) (leb (get_or new.places n 0) cursor)
                (le-ltb 0 (get_or new.places n 0) (omega (arith, w))) ∙ sym was
            | inr w ↦ and_no (ltb 0 (get_or new.places n 0)) (leb (get_or new.places n 0) cursor)
                (lt-leb (get_or new.places n 0) cursor (omega (arith, w, l))) ∙ sym was
          ]
      | inr z ↦ ap (λ p. ltb 0 p && leb p cursor) (place_kept old.marked old.places new.marked new.places a b front n (omega (arith, z)))
    ]
  where
    and_no : (x y : Bool) → y ≡ false → (x && y) ≡ false
    and_no true y e = e
    and_no false y e = refl

-- The flag that is set has its new value.
pub flag-here : (flags : List Bool) (l : ℕ) (v : Bool) → l < length flags → get_or (set flags l v) l false ≡ v
flag-here flags l v h = get_or-set_same flags l v false h

-- Each other flag is as it was.
pub flag-other : (flags : List Bool) (l k : ℕ) (v : Bool) → k ≢ l → get_or (set flags l v) k false ≡ get_or flags k false
flag-other flags l k v h = get_or-set_other flags l k v false h

-- A label is opened.

module _ (net : Net) (label : ℕ) (t new : Tally) (within : label < length net.closed) (h : IsSteady net t)
    (listing : IsListing new.marked new.places) (o : Opens net label t new) where
  -- The flags of open labels are the old ones, with this label's raised.
  opened_is : new.opened ≡ set t.opened label true
  opened_is = o.releases.opened

  -- The label is open.
  open_here : is_open_in new label ≡ true
  open_here = ap (λ flags. get_or flags label false) opened_is ∙ flag-here t.opened label true (omega (arith, within, h.sizes.opened))

  -- Each other label is as open as it was.
  open_other : (k : ℕ) → k ≢ label → is_open_in new k ≡ is_open_in t k
  open_other k ne = ap (λ flags. get_or flags k false) opened_is ∙ flag-other t.opened label k true ne

  -- What was open is still open.
  open_kept : (k : ℕ) → is_open_in t k ≡ true → is_open_in new k ≡ true
  open_kept k e = elim (cases_eq k label) [ inl s ↦ ap (is_open_in new) s ∙ open_here | inr s ↦ open_other k s ∙ e ]

  -- To open a label changes no support.
  support_is : (k : ℕ) → support_in new k ≡ support_in t k
  support_is k = ap (λ xs. get_or xs k 0) o.releases.support

  -- When a label that a marked node offers is opened, what holds of marks and open labels still
  -- holds.
  pub Opens-steady : (i m : ℕ) → IsEdge net.offers i m label → is_marked_in t m ≡ true → IsSteady net new
  Opens-steady i m edge marked = record {
    sizes = record {
      places = o.releases.size ∙ h.sizes.places;
      support = ap length o.releases.support ∙ h.sizes.support;
      opened = ap length opened_is ∙ length-set t.opened label true ∙ h.sizes.opened;
      touched = ap length o.releases.touched_places ∙ h.sizes.touched;
    };
    listing = listing;
    sound = λ n a.
        elim (o.releases.only n a) [
          | inl b ↦ h.sound n b
          | inr b ↦ step (h.sound m marked) edge o.not_closed b.1
        ];
    roots = λ n a. o.releases.kept n (h.roots n a);
    released = λ j l a.
        elim (cases_eq (from_at net.waits j) label) [
          | inl s ↦ o.releases.all j l s
          | inr s ↦ o.releases.kept (to_at net.waits j) (h.released j l (sym (open_other (from_at net.waits j) s) ∙ a))
        ];
    open_not_closed = λ k a.
        elim (cases_eq k label) [
          | inl s ↦ ap (is_closed net) s ∙ o.not_closed
          | inr s ↦ h.open_not_closed k (sym (open_other k s) ∙ a)
        ];
    open_supported = λ k a.
        elim (cases_eq k label) [
          | inl s ↦ omega (arith, support_is k, ap (support_in t) s, o.supported)
          | inr s ↦ omega (arith, support_is k, h.open_supported k (sym (open_other k s) ∙ a))
        ];
  }

  -- The wait edges of open labels are more by those of this label.
  more_open : count_below (λ i. is_open_in new (from_at net.waits i)) (length net.waits)
      ≡ count_below (λ i. is_open_in t (from_at net.waits i)) (length net.waits) + waits_of net label
  more_open =
      count_below-add (λ i. is_open_in new (from_at net.waits i)) (λ i. is_open_in t (from_at net.waits i))
      (λ i. eqb (from_at net.waits i) label) (length net.waits)
      (λ i l. elim (cases_eq (from_at net.waits i) label) [
        | inl s ↦ omega (
          arith,
          bit-true (is_open_in new (from_at net.waits i)) (ap (is_open_in new) s ∙ open_here),
          bit-false (is_open_in t (from_at net.waits i)) (ap (is_open_in t) s ∙ o.shut),
          bit-true (eqb (from_at net.waits i) label) (eq-eqb (from_at net.waits i) label s),
        )
        | inr s ↦ omega (arith, ap bit (open_other (from_at net.waits i) s), bit-false (eqb (from_at net.waits i) label) (ne_eqb (from_at net.waits i) label s))
      ])

  -- The counts are right once more, with the label's wait edges among them.
  pub Opens-counted : (cursor node link : ℕ) → cursor ≤ length t.marked → IsCounted net t cursor node link → IsCounted net new cursor node link
  Opens-counted cursor node link l c =
      let before = before_kept t new cursor h.listing listing o.releases.front l in
      record {
        support = λ k a.
            omega (
              arith,
              support_is k,
              c.support k a,
              count_below-same (λ i. is_before new cursor (from_at net.offers i) && eqb (to_at net.offers i) k)
                  (λ i. is_before t cursor (from_at net.offers i) && eqb (to_at net.offers i) k) (length net.offers)
                  (λ i b. ap (λ x. x && eqb (to_at net.offers i) k) (before (from_at net.offers i))),
            );
        visits =
            omega (
              arith,
              o.releases.visits,
              c.visits,
              more_open,
              count_below-same (λ i. is_before new cursor (from_at net.offers i)) (λ i. is_before t cursor (from_at net.offers i)) (length net.offers)
                  (λ i b. before (from_at net.offers i)),
            );
      }

  -- no label but this one is less open than it was
  pub Opens-opened : ((k : ℕ) → k < length net.closed → k ≢ label → 0 < support_in t k → is_closed net k ≡ false
      → (is_open_in t k ≡ true) ⊎ (is_touched_in t k ≡ true)) → IsOpened net new
  Opens-opened others = record {
    at = λ k l s a.
        elim (cases_eq k label) [
          | inl e ↦ inl (ap (is_open_in new) e ∙ open_here)
          | inr e ↦
              elim (others k l e (omega (arith, s, support_is k)) a) [
                | inl b ↦ inl (open_kept k b)
                | inr b ↦ inr (ap (λ xs. holds xs k) o.releases.touched_places ∙ b)
              ]
        ];
  }

-- a label that is left as it is needs no opening
pub Leaves-opened : (net : Net) (label : ℕ) (t new : Tally) → Leaves net label t new
    → ((k : ℕ) → k < length net.closed → k ≢ label → 0 < support_in t k → is_closed net k ≡ false
    → (is_open_in t k ≡ true) ⊎ (is_touched_in t k ≡ true)) → IsOpened net t
Leaves-opened net label t new o others = record {
  at = λ k l s a.
      elim (cases_eq k label) [
        | inl e ↦
            elim o.why [
              | inl z ↦ absurd (omega (arith, s, z, ap (support_in t) e))
              | inr z ↦ elim z [
                | inl y ↦ absurd (both_ways (is_closed net label) (ap (is_closed net) (sym e) ∙ a) y)
                | inr y ↦ inl (ap (is_open_in t) e ∙ y)
              ]
            ]
        | inr e ↦ others k l e s a
      ];
}

-- When a label is settled, all still holds that holds while edges are followed.
pub Settles-follows : (net : Net) (label cursor node link : ℕ) (t new : Tally) → label < length net.closed
    → cursor ≤ length t.marked → IsSteady net t → IsCounted net t cursor node link → IsListing new.marked new.places
    → (0 < support_in t label → (i : ℕ) × (m : ℕ) × IsEdge net.offers i m label × (is_marked_in t m ≡ true))
    → ((k : ℕ) → k < length net.closed → k ≢ label → 0 < support_in t k → is_closed net k ≡ false → (is_open_in t k ≡ true) ⊎ (is_touched_in t k ≡ true))
    → SettlesLabel net label t new → Follows net new cursor node link
Settles-follows net label cursor node link t new within l h c listing offered others s =
    elim s [
      | inl o ↦ subst (λ x. Follows net x cursor node link) (sym o.same) (record { steady = h; counted = c; opened = Leaves-opened net label t new o others })
      | inr o ↦
          let by = offered o.supported in
          record {
            steady = Opens-steady net label t new within h listing o by.0 by.1 by.2 by.3;
            counted = Opens-counted net label t new within h listing o cursor node link l c;
            opened = Opens-opened net label t new within h listing o others;
          }
    ]

-- If nothing changes nothing is taken back.
pub Spreads-refl : (t : Tally) → Spreads t t
Spreads-refl t = record { front = take_all (length t.marked) t.marked (omega arith); touched = refl; touched_places = refl; visits = omega arith }

-- If neither of two steps takes anything back, nothing is taken back in all.
pub Spreads-trans : (a b c : Tally) → Spreads a b → Spreads b c → Spreads a c
Spreads-trans a b c h k = record {
  front = front-trans a.marked b.marked c.marked h.front k.front;
  touched = k.touched ∙ h.touched;
  touched_places = k.touched_places ∙ h.touched_places;
  visits = omega (arith, h.visits, k.visits);
}

-- To settle a label takes nothing back.
pub Settles-spreads : (net : Net) (label : ℕ) (t new : Tally) → SettlesLabel net label t new → Spreads t new
Settles-spreads net label t new s =
    elim s [
      | inl o ↦ subst (λ x. Spreads t x) (sym o.same) (Spreads-refl t)
      | inr o ↦ record {
        front = o.releases.front;
        touched = o.releases.touched;
        touched_places =
            o.releases.touched_places;
        visits = omega (arith, o.releases.visits);
      }
    ]

-- While nothing is taken back no fewer nodes are marked.
pub Spreads-longer : (a b : Tally) → Spreads a b → length a.marked ≤ length b.marked
Spreads-longer a b h = omega (arith, length-take (length a.marked) b.marked, ap length h.front)

-- While nothing is taken back each mark is kept.
pub Spreads-held : (a b : Tally) → IsListing a.marked a.places → IsListing b.marked b.places → Spreads a b → (n : ℕ)
    → is_marked_in a n ≡ true → is_marked_in b n ≡ true
Spreads-held a b h k s n e =
    let place = placed-from_holds a.places n e in
    holds-from_placed b.places n (omega (arith, place, place_kept a.marked a.places b.marked b.places h k s.front n place))

-- If a test is split into two that never both pass, it is still so together with another test.
pub bit-and-add : (a b c x : Bool) → bit a ≡ bit b + bit c → bit (a && x) ≡ bit (b && x) + bit (c && x)
bit-and-add a b c true e = omega (arith, e, ap bit (and_true a), ap bit (and_true b), ap bit (and_true c))
  where
    and_true : (y : Bool) → (y && true) ≡ y
    and_true true = refl
    and_true false = refl
bit-and-add a b c false e = omega (arith, ap bit (and_false a), ap bit (and_false b), ap bit (and_false c))
  where
    and_false : (y : Bool) → (y && false) ≡ false
    and_false true = refl
    and_false false = refl

-- the node at the cursor, and no other, joins those before it
pub before_more : (t : Tally) (cursor node : ℕ) → IsListing t.marked t.places → cursor < length t.marked
    → node ≡ get_or t.marked cursor 0 → (n : ℕ)
    → bit (is_before t (cursor + 1) n) ≡ bit (is_before t cursor n) + bit (eqb n node)
before_more t cursor node h l e n =
    let place : get_or t.places node 0 ≡ cursor + 1 = ap (λ k. get_or t.places k 0) e ∙ h.listed cursor l in
    elim (cases_eq n node) [
      | inl s ↦
          let here : get_or t.places n 0 ≡ cursor + 1 = ap (λ k. get_or t.places k 0) s ∙ place in
          omega (
            arith,
            bit-true (is_before t (cursor + 1) n)
                (and_from (ltb 0 (get_or t.places n 0)) (leb (get_or t.places n 0) (cursor + 1))
                (lt-ltb 0 (get_or t.places n 0) (omega (arith, here)))
                (le-leb (get_or t.places n 0) (cursor + 1) (omega (arith, here)))),
            bit-false (is_before t cursor n)
                (and_no (ltb 0 (get_or t.places n 0)) (leb (get_or t.places n 0) cursor)
                (lt-leb (get_or t.places n 0) cursor (omega (arith, here)))),
            bit-true (eqb n node) (eq-eqb n node s),
          )
      | inr s ↦
          let apart : get_or t.places n 0 ≢ cursor + 1 = λ q. s (sym (h.placed n cursor q) ∙ sym e) in
          let same : leb (get_or t.places n 0) (cursor + 1) ≡ leb (get_or t.places n 0) cursor =
          elim (cases_lt cursor (get_or t.places n 0)) [
            | inl b ↦ lt-leb (get_or t.places n 0) (cursor + 1) (omega (arith, b, apart)) ∙ sym (lt-leb (get_or t.places n 0) cursor b)
            | inr b ↦ le-leb (get_or t.places n 0) (cursor + 1) (omega (arith, b)) ∙ sym (le-leb (get_or t.places n 0) cursor b)
          ]
          in
          omega (arith, ap (λ x. bit (ltb 0 (get_or t.places n 0) && x)) same, bit-false (eqb n node) (ne_eqb n node s))
    ]
  where
    and_no : (x y : Bool) → y ≡ false → (x && y) ≡ false
    and_no true y e = e
    and_no false y e = refl

-- the offer edges of the node at the cursor are followed from the link on
pub record OffersFrom (net : Net) (cursor node link : ℕ) (old now : Tally) : Type 0 where
  pub follows : Follows net now (cursor + 1) node link
  pub at : IsLink net.offers node link
  pub within : cursor < length now.marked
  pub held : is_marked_in now node ≡ true
  pub spreads : Spreads old now

-- Before the first offer edge of the node all of them are left to be followed.
pub OffersFrom-start : (net : Net) (cursor node link : ℕ) (t : Tally) → Follows net t cursor 0 0
    → cursor < length t.marked → node ≡ get_or t.marked cursor 0 → IsLast net.offers node (length net.offers) link
    → OffersFrom net cursor node link t t
OffersFrom-start net cursor node link t h l e last =
    let more = before_more t cursor node h.steady.listing l e in
    record {
      follows = record {
        steady = h.steady;
        counted = record {
          support = λ k a.
              omega (
                arith,
                h.counted.support k a,
                count_owned_and net.offers node (λ i. eqb (to_at net.offers i) k) (length net.offers) link last,
                count_below-add (λ i. is_before t (cursor + 1) (from_at net.offers i) && eqb (to_at net.offers i) k)
                    (λ i. is_before t cursor (from_at net.offers i) && eqb (to_at net.offers i) k)
                    (λ i. eqb (from_at net.offers i) node && eqb (to_at net.offers i) k) (length net.offers)
                    (λ i b. bit-and-add (is_before t (cursor + 1) (from_at net.offers i))
                    (is_before t cursor (from_at net.offers i)) (eqb (from_at net.offers i) node)
                    (eqb (to_at net.offers i) k) (more (from_at net.offers i))),
              );
          visits =
              omega (
                arith,
                h.counted.visits,
                count_owned net.offers node (length net.offers) link last,
                count_below-add (λ i. is_before t (cursor + 1) (from_at net.offers i))
                    (λ i. is_before t cursor (from_at net.offers i)) (λ i. eqb (from_at net.offers i) node)
                    (length net.offers)
                    (λ i b. more (from_at net.offers i)),
              );
        };
        opened = h.opened;
      };
      at = IsLink-last net.offers node (length net.offers) link (omega arith) last;
      within = l;
      held = holds-from_placed t.places node (omega (arith, ap (λ k. get_or t.places k 0) e, h.steady.listing.listed cursor l));
      spreads = Spreads-refl t;
    }

-- what the counts are once an edge to the label is followed
abbrev pub with_support : Tally → ℕ → Tally
with_support t label = record t { support = set t.support label (support_in t label + 1); visits = t.visits + 1 }

module _ (net : Net) (t : Tally) (label : ℕ) (within : label < length net.closed) (h : IsSteady net t) where
  -- This label's support is one more.
  pub with_support-here : support_in (with_support t label) label ≡ support_in t label + 1
  with_support-here = get_or-set_same t.support label (support_in t label + 1) 0 (omega (arith, within, h.sizes.support))

  -- Each other label's support is as it was.
  pub with_support-other : (k : ℕ) → k ≢ label → support_in (with_support t label) k ≡ support_in t k
  with_support-other k ne = get_or-set_other t.support label k (support_in t label + 1) 0 ne

  -- What holds of marks and open labels still holds.
  pub with_support-steady : IsSteady net (with_support t label)
  with_support-steady = record {
    sizes = record {
      places = h.sizes.places;
      support =
          length-set t.support label (support_in t label + 1) ∙ h.sizes.support;
      opened = h.sizes.opened;
      touched =
          h.sizes.touched;
    };
    listing = h.listing;
    sound = h.sound;
    roots = h.roots;
    released = h.released;
    open_not_closed = h.open_not_closed;
    open_supported = λ k a.
        elim (cases_eq k label) [
          | inl s ↦ omega (arith, ap (support_in (with_support t label)) s, with_support-here)
          | inr s ↦ omega (arith, with_support-other k s, h.open_supported k a)
        ];
  }

-- While an offer edge is left to be followed, the support of its label is below the number of offer edges.
pub OffersFrom-support : (net : Net) (cursor node edge link : ℕ) (old now : Tally) → OffersFrom net cursor node link old now
    → link ≡ edge + 1 → (label : ℕ) → label ≡ to_at net.offers edge → label < length net.closed
    → support_in now label < length net.offers
OffersFrom-support net cursor node edge link old now h e label to within =
    let left : ℕ → Bool = λ i. eqb (from_at net.offers i) node && eqb (to_at net.offers i) label in
    let here : left edge ≡ true = ap (λ b. b && eqb (to_at net.offers edge) label) (eq-eqb (from_at net.offers edge) node (h.at.owned edge e))
    ∙ eq-eqb (to_at net.offers edge) label (sym to) in
    omega (
      arith,
      h.follows.counted.support label within,
      ap (count_below left) e,
      count_below-more left edge,
      bit-true (left edge) here,
      count_below-le (λ i. is_before now (cursor + 1) (from_at net.offers i) && eqb (to_at net.offers i) label) (length net.offers),
    )

-- One offer edge more is followed, and its label settled.
pub OffersFrom-step : (net : Net) (cursor node edge link next : ℕ) (old now new : Tally)
    → OffersFrom net cursor node link old now → link ≡ edge + 1 → to_at net.offers edge < length net.closed
    → IsLast net.offers node edge next → IsListing new.marked new.places → Supports net (to_at net.offers edge) now new
    → OffersFrom net cursor node next old new
OffersFrom-step net cursor node edge link next old now new h e within last listing s =
    let label = to_at net.offers edge in
    let there : edge < length net.offers = omega (arith, h.at.within) in
    let owner : from_at net.offers edge ≡ node = h.at.owned edge e in
    let c = h.follows.counted in
    let steady = with_support-steady net now (to_at net.offers edge) within h.follows.steady in
    let counted : IsCounted net (with_support now (to_at net.offers edge)) (cursor + 1) node next = record {
      support = λ k a.
          let step = count_owned_and-step net.offers node (λ i. eqb (to_at net.offers i) k) edge next owner last in
          let here = ap (count_below (λ i. eqb (from_at net.offers i) node && eqb (to_at net.offers i) k)) e in
          elim (cases_eq k (to_at net.offers edge)) [
            | inl q ↦ omega (
              arith,
              c.support k a,
              step,
              here,
              bit-true (eqb (to_at net.offers edge) k) (eq-eqb (to_at net.offers edge) k (sym q)),
              ap (support_in (with_support now (to_at net.offers edge))) q,
              ap (support_in now) q,
              with_support-here net now (to_at net.offers edge) within h.follows.steady,
            )
            | inr q ↦ omega (
              arith,
              c.support k a,
              step,
              here,
              bit-false (eqb (to_at net.offers edge) k) (ne_eqb (to_at net.offers edge) k (λ r. q (sym r))),
              with_support-other net now (to_at net.offers edge) within h.follows.steady k q,
            )
          ];
      visits = omega (arith, c.visits, count_owned-step net.offers node edge next owner last, ap (count_below (λ i. eqb (from_at net.offers i) node)) e);
    } in
    let follows = Settles-follows net (to_at net.offers edge) (cursor + 1) node next
    (with_support now (to_at net.offers edge)) new within (omega (arith, h.within)) steady counted listing
    (λ a. (edge, node, record { within = there; from = owner; to = refl }, h.held))
    (λ k a q b d. h.follows.opened.at k a (omega (arith, b, with_support-other net now (to_at net.offers edge) within h.follows.steady k q)) d)
    s
    in
    let spreads : Spreads now new =
    let more = Settles-spreads net (to_at net.offers edge) (with_support now (to_at net.offers edge)) new s in
    record { front = more.front; touched = more.touched; touched_places = more.touched_places; visits = omega (arith, more.visits) }
    in
    record {
      follows = follows;
      at = IsLink-last net.offers node edge next (omega (arith, there)) last;
      within = omega (arith, h.within, Spreads-longer now new spreads);
      held = Spreads-held now new h.follows.steady.listing listing spreads node h.held;
      spreads = Spreads-trans old now new h.spreads spreads;
    }

-- the counts do not pass the numbers of edges
pub Follows-visits : (net : Net) (cursor node link : ℕ) (t : Tally) → Follows net t cursor node link → t.visits ≤ length net.offers + length net.waits
Follows-visits net cursor node link t h =
    omega (
      arith,
      h.counted.visits,
      count_below-le (λ i. is_before t cursor (from_at net.offers i)) (length net.offers),
      count_below-le (λ i. is_open_in t (from_at net.waits i)) (length net.waits),
    )

-- No label's support is above the number of offer edges.
pub Follows-support : (net : Net) (cursor node link : ℕ) (t : Tally) → Follows net t cursor node link → (l : ℕ)
    → l < length net.closed → support_in t l ≤ length net.offers
Follows-support net cursor node link t h l a =
    omega (arith, h.counted.support l a, count_below-le (λ i. is_before t cursor (from_at net.offers i) && eqb (to_at net.offers i) l) (length net.offers))

-- No more nodes are marked than there are, so the work ends.
pub Follows-nodes : (net : Net) (cursor node link : ℕ) (t : Tally) → Follows net t cursor node link → length t.marked ≤ length net.roots
Follows-nodes net cursor node link t h =
    omega (arith, h.steady.listing.many, h.steady.sizes.places, count_below-le (λ n. holds t.places n) (length t.places))

-- a label to which a followed edge leads is offered by a marked node
pub Follows-offered : (net : Net) (cursor : ℕ) (t : Tally) → Follows net t cursor 0 0 → (l : ℕ) → l < length net.closed
    → 0 < support_in t l → (i : ℕ) × (m : ℕ) × IsEdge net.offers i m l × (is_marked_in t m ≡ true)
Follows-offered net cursor t h l a s =
    let i = count_below-some (λ i. is_before t cursor (from_at net.offers i) && eqb (to_at net.offers i) l)
    (length net.offers) (omega (arith, s, h.counted.support l a)) in
    let parts = and_parts (is_before t cursor (from_at net.offers i.0)) (eqb (to_at net.offers i.0) l) i.2 in
    let marked = and_parts (ltb 0 (get_or t.places (from_at net.offers i.0) 0)) (leb (get_or t.places (from_at net.offers i.0) 0) cursor) parts.0 in
    (i.0, from_at net.offers i.0, record { within = i.1; from = refl; to = eqb-true (to_at net.offers i.0) l parts.1 }, marked.0)

-- the last touched label is taken from the list
abbrev pub with_untouched : Tally → List ℕ → ℕ → Tally
with_untouched t touched label = record t { touched = touched; touched_places = set t.touched_places label 0 }

-- A touched label is settled again, which keeps what holds while edges are followed.
pub Restore-step : (net : Net) (cursor label : ℕ) (touched : List ℕ) (t new : Tally) → Follows net t cursor 0 0
    → label < length net.closed → cursor ≤ length t.marked → IsListing new.marked new.places
    → SettlesLabel net label (with_untouched t touched label) new → Follows net new cursor 0 0
Restore-step net cursor label touched t new h within l listing s =
    Settles-follows net label cursor 0 0 (with_untouched t touched label) new within l
    (record {
      sizes = record {
        places = h.steady.sizes.places;
        support = h.steady.sizes.support;
        opened = h.steady.sizes.opened;
        touched = length-set t.touched_places label 0 ∙ h.steady.sizes.touched;
      };
      listing = h.steady.listing;
      sound = h.steady.sound;
      roots = h.steady.roots;
      released = h.steady.released;
      open_not_closed = h.steady.open_not_closed;
      open_supported = h.steady.open_supported;
    })
    (record { support = h.counted.support; visits = h.counted.visits })
    listing
    (λ a. Follows-offered net cursor t h label within a)
    (λ k a q b d. elim (h.opened.at k a b d) [ inl o ↦ inl o | inr o ↦ inr (ap (ltb 0) (get_or-set_other t.touched_places label k 0 0 q) ∙ o) ])
    s
