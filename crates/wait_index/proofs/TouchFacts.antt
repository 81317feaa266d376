-- How the labels that are to be closed are touched
use Rattle.std.proofs.Common.{◌≡◌, ℕ, ◌+◌, ◌-◌, ◌<◌, inl, inr, false, ◌&&◌, List, [], ◌∷◌, ◌++◌, length, get_or, take, eqb, arith, sym, ap, ◌∙◌, subst}
use Rattle.std.specs.Prelude.{Contains}
use Rattle.std.proofs.lemmas.Bool.{cases_lt, both_ways, false_from_ne_true, eq-eqb, eqb-true, or_cases, or_left, or_right, and_parts, and_from}
use Rattle.std.proofs.lemmas.List.{take_more, ext_get_or}
use Rattle.std.proofs.lemmas.List.Elements.{Contains-push, Contains-push_cases, Contains-append_left}
use Rattle.wait_index.specs.Inside.Listing.{IsListing}
use Rattle.wait_index.proofs.ListingFacts.{contains-from_holds, holds-from_placed}
use Rattle.wait_index.specs.Inside.Tally.{Tally, is_touched_in, is_open_in, Touches, TouchesAll}

-- One label more is touched if it is open: the step of the loop.
pub TouchesAll-more : (labels : List ℕ) (i label : ℕ) (old now new : Tally) → i < length labels
    → label ≡ get_or labels i 0 → TouchesAll (take i labels) old now → Touches label now new
    → TouchesAll (take (i + 1) labels) old new
TouchesAll-more labels i label old now new l at h s =
    let more : take (i + 1) labels ≡ take i labels ++ label ∷ [] = take_more labels i 0 l ∙ ap (λ k. take i labels ++ k ∷ []) (sym at) in
    let opened : (k : ℕ) → is_open_in now k ≡ is_open_in old k = λ k. ap (λ (t : Tally). is_open_in t k) h.same in
    subst (λ xs. TouchesAll xs old new) (sym more)
    (record {
      same = s.same ∙ ap (λ (t : Tally). record t { touched = new.touched; touched_places = new.touched_places }) h.same;
      kept = λ k a. s.touched k ∙ or_left (is_touched_in now k) (eqb k label && is_open_in now label) (h.kept k a);
      all = λ k c o.
          elim (Contains-push_cases (take i labels) label k c) [
            | inl a ↦ s.touched k ∙ or_left (is_touched_in now k) (eqb k label && is_open_in now label) (h.all k a o)
            | inr a ↦
                s.touched k
                ∙ or_right (is_touched_in now k) (eqb k label && is_open_in now label)
                (and_from (eqb k label) (is_open_in now label) (eq-eqb k label (sym a)) (opened label ∙ ap (is_open_in old) a ∙ o))
          ];
      only = λ k a.
          elim (or_cases (is_touched_in now k) (eqb k label && is_open_in now label) (sym (s.touched k) ∙ a)) [
            | inl b ↦ elim (h.only k b) [ inl d ↦ inl d | inr d ↦ inr (Contains-append_left (take i labels) (label ∷ []) k d.0, d.1) ]
            | inr b ↦
                let parts = and_parts (eqb k label) (is_open_in now label) b in
                let same = eqb-true k label parts.0 in
                inr (
                  subst (Contains (take i labels ++ label ∷ [])) (sym same) (Contains-push (take i labels) label),
                  ap (is_open_in old) same ∙ sym (opened label) ∙ parts.1,
                )
          ];
      size = s.size ∙ h.size;
    })

-- If none is touched after all, none of the labels is open, and nothing has changed.

-- If none is touched in the end, none of the labels was open.
pub TouchesAll-shut : (labels : List ℕ) (old new : Tally) → IsListing new.touched new.touched_places → new.touched ≡ []
    → TouchesAll labels old new → (l : ℕ) → Contains labels l → is_open_in old l ≡ false
TouchesAll-shut labels old new queue none h l c =
    false_from_ne_true (is_open_in old l) (λ o.
    let listed = contains-from_holds new.touched new.touched_places queue l (h.all l c o) in
    omega (arith, listed.1, ap length none))

-- If none was touched and none is, nothing has changed.
pub TouchesAll-same : (labels : List ℕ) (old new : Tally) → IsListing old.touched old.touched_places
    → IsListing new.touched new.touched_places → old.touched ≡ [] → new.touched ≡ [] → TouchesAll labels old new
    → new ≡ old
TouchesAll-same labels old new queue queue_new none none_new h =
    let places : new.touched_places ≡ old.touched_places =
    ext_get_or 0 new.touched_places old.touched_places h.size
    (λ k l. unplaced new.touched new.touched_places queue_new none_new k
    ∙ sym (unplaced old.touched old.touched_places queue none k))
    in
    h.same ∙ ap (λ xs. record old { touched = xs; touched_places = new.touched_places }) (none_new ∙ sym none)
    ∙ ap (λ xs. record old { touched_places = xs }) places
  where
    unplaced : (items places : List ℕ) → IsListing items places → items ≡ [] → (n : ℕ) → get_or places n 0 ≡ 0
    unplaced items places q e n =
        elim (cases_lt 0 (get_or places n 0)) [
          | inl a ↦ absurd (omega (arith, a, ap length e, q.placed_within n (get_or places n 0 - 1) (omega (arith, a))))
          | inr a ↦ omega (arith, a)
        ]

-- If none of the labels is open, none is touched.
pub TouchesAll-untouched : (labels : List ℕ) (old new : Tally) → IsListing old.touched old.touched_places
    → IsListing new.touched new.touched_places → old.touched ≡ []
    → ((l : ℕ) → Contains labels l → is_open_in old l ≡ false) → TouchesAll labels old new → length new.touched ≡ 0
TouchesAll-untouched labels old new queue queue_new none shut h =
    elim (cases_lt 0 (length new.touched)) [
      | inl a ↦
          let first = get_or new.touched 0 0 in
          elim (h.only first (holds-from_placed new.touched_places first (omega (arith, queue_new.listed 0 a)))) [
            | inl b ↦ let c = contains-from_holds old.touched old.touched_places queue first b in absurd (omega (arith, c.1, ap length none))
            | inr b ↦ absurd (both_ways (is_open_in old first) (shut first b.0) b.1)
          ]
      | inr a ↦ omega (arith, a)
    ]
