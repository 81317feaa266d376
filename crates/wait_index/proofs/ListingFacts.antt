-- A set that is kept as a list and places
use Rattle.std.proofs.Common.{◌≡◌, ◌≢◌, ℕ, ◌+◌, ◌-◌, ◌<◌, ◌⊎◌, inl, inr, Bool, true, false, ◌&&◌, List, [], ◌∷◌, ◌++◌}
use Rattle.std.proofs.Common.{length, get_or, set, eqb, ltb, arith, refl, sym, ap, ◌∙◌}
use Rattle.std.specs.Prelude.{not, Contains, AllPairs}
use Rattle.std.specs.List.{swap_remove}
use Rattle.std.proofs.lemmas.Bool.{cases_eq, cases_lt, ne_eqb, eq-eqb, ltb-true, ltb-false, lt-ltb, le-ltb}
use Rattle.std.proofs.lemmas.List.{get_or_append_left, get_or_push, length_push, length-set, get_or-set_same}
use Rattle.std.proofs.lemmas.List.{get_or-set_other, get_or-take, length-take-le, get_or_past, get_or_default}
use Rattle.wait_index.specs.Inside.Count.{bit, count_below}
use Rattle.wait_index.specs.Inside.Listing.{holds, IsListing}
use Rattle.wait_index.proofs.CountBelowFacts.{count_below-change, count_below-less, count_below-same, count_below-more, bit-false}

-- A listed number has a place, which is not 0.
pub placed-from_holds : (places : List ℕ) (n : ℕ) → holds places n ≡ true → 0 < get_or places n 0
placed-from_holds places n h = ltb-true 0 (get_or places n 0) h

-- A number with a place is listed.
pub holds-from_placed : (places : List ℕ) (n : ℕ) → 0 < get_or places n 0 → holds places n ≡ true
holds-from_placed places n h = lt-ltb 0 (get_or places n 0) h

-- A number that is not listed has no place.
pub unplaced-from_holds : (places : List ℕ) (n : ℕ) → holds places n ≡ false → get_or places n 0 ≡ 0
unplaced-from_holds places n h = omega (arith, ltb-false 0 (get_or places n 0) h)

-- A number without a place is not listed.
pub holds-from_unplaced : (places : List ℕ) (n : ℕ) → get_or places n 0 ≡ 0 → holds places n ≡ false
holds-from_unplaced places n h = le-ltb 0 (get_or places n 0) (omega (arith, h))

-- A listed number is one of those that have an entry.
pub within-from_holds : (places : List ℕ) (n : ℕ) → holds places n ≡ true → n < length places
within-from_holds places n h =
    elim (cases_lt n (length places)) [
      | inl l ↦ l
      | inr l ↦ absurd (omega (arith, placed-from_holds places n h, get_or_past places n 0 l))
    ]

-- what is listed is held

module _ (items places : List ℕ) (h : IsListing items places) where
  -- A held number is in the list.
  pub contains-from_holds : (n : ℕ) → holds places n ≡ true → Contains items n
  contains-from_holds n e =
      let place = placed-from_holds places n e in
      let at : get_or places n 0 ≡ (get_or places n 0 - 1) + 1 = omega (arith, place) in
      let within = h.placed_within n (get_or places n 0 - 1) at in
      (get_or places n 0 - 1, within, get_or_default items (get_or places n 0 - 1) n 0 within ∙ h.placed n (get_or places n 0 - 1) at)

  -- If a number is held, the list is not empty.
  pub some-from_holds : (n : ℕ) → holds places n ≡ true → 0 < length items
  some-from_holds n e = let c = contains-from_holds n e in omega (arith, c.1)

  -- A number in the list is held.
  pub holds-from_contains : (n : ℕ) → Contains items n → holds places n ≡ true
  holds-from_contains n c =
      let item : get_or items c.0 0 ≡ n = get_or_default items c.0 0 n c.1 ∙ c.2 in
      holds-from_placed places n (omega (arith, ap (λ k. get_or places k 0) (sym item), h.listed c.0 c.1))

  -- No number is listed twice.
  pub listed-once : AllPairs ◌≢◌ items
  listed-once i j d l within e =
      let a = get_or_default items i d 0 (omega (arith, l, within)) in
      let b = get_or_default items j d 0 within in
      omega (arith, l, ap (λ k. get_or places k 0) (sym a ∙ e ∙ b), h.listed i (omega (arith, l, within)), h.listed j within)

-- what is held after one place is set

module _ (places : List ℕ) (n v : ℕ) (l : n < length places) where
  -- The entry that is set has the new place.
  pub get-here : get_or (set places n v) n 0 ≡ v
  get-here = get_or-set_same places n v 0 l

  -- Each other entry has its old place.
  pub get-other : (m : ℕ) → m ≢ n → get_or (set places n v) m 0 ≡ get_or places m 0
  get-other m ne = get_or-set_other places n m v 0 ne

-- When an entry is set to 0, just its number is held no longer.
pub holds-remove : (places : List ℕ) (n : ℕ) → n < length places → (m : ℕ) → holds (set places n 0) m ≡ (holds places m && not (eqb m n))
holds-remove places n l m =
    elim (cases_eq m n) [
      | inl e ↦
          let here : get_or (set places n 0) m 0 ≡ 0 = ap (λ k. get_or (set places n 0) k 0) e ∙ get-here places n 0 l in
          holds-from_unplaced (set places n 0) m here ∙ sym (ap (λ b. holds places m && not b) (eq-eqb m n e) ∙ and-false (holds places m))
      | inr e ↦
          ap (ltb 0) (get-other places n 0 l m e) ∙ sym (ap (λ b. holds places m && not b) (ne_eqb m n e) ∙ and-true (holds places m))
    ]
  where
    and-false : (b : Bool) → (b && false) ≡ false
    and-false true = refl
    and-false false = refl

    and-true : (b : Bool) → (b && true) ≡ b
    and-true true = refl
    and-true false = refl

-- If a number is not listed, the list is shorter than the places, so there is room for it.
pub fewer : (items places : List ℕ) (n : ℕ) → IsListing items places → n < length places → holds places n ≡ false → length items < length places
fewer items places n h l e = omega (arith, h.many, count_below-less (λ m. holds places m) n (length places) l e)

-- With a new number at its end the list and its places are still right.
pub IsListing-insert : (items places : List ℕ) (n : ℕ) → IsListing items places → n < length places
    → holds places n ≡ false → IsListing (items ++ n ∷ []) (set places n (length items + 1))
IsListing-insert items places n h l e =
    let v = length items + 1 in
    let unplaced : get_or places n 0 ≡ 0 = unplaced-from_holds places n e in
    let here : get_or (set places n v) n 0 ≡ v = get-here places n v l in
    let size : length (set places n v) ≡ length places = length-set places n v in
    let more : length (items ++ n ∷ []) ≡ v = length_push items n in
    let last : get_or (items ++ n ∷ []) (length items) 0 ≡ n = get_or_push items n 0 (length items) refl in
    record {
      within = λ i a.
          elim (cases_lt i (length items)) [
            | inl b ↦ omega (arith, size, get_or_append_left items (n ∷ []) 0 i b, h.within i b)
            | inr b ↦ let at : i ≡ length items = omega (arith, more) in omega (arith, size, l, ap (λ k. get_or (items ++ n ∷ []) k 0) at ∙ last)
          ];
      listed = λ i a.
          elim (cases_lt i (length items)) [
            | inl b ↦
                let item : get_or (items ++ n ∷ []) i 0 ≡ get_or items i 0 = get_or_append_left items (n ∷ []) 0 i b in
                let ne : get_or items i 0 ≢ n = λ s. omega (arith, unplaced, ap (λ k. get_or places k 0) s, h.listed i b) in
                ap (λ k. get_or (set places n v) k 0) item ∙ get-other places n v l (get_or items i 0) ne ∙ h.listed i b
            | inr b ↦
                let at : i ≡ length items = omega (arith, more) in
                let item : get_or (items ++ n ∷ []) i 0 ≡ n = ap (λ k. get_or (items ++ n ∷ []) k 0) at ∙ last in
                omega (arith, ap (λ k. get_or (set places n v) k 0) item, here)
          ];
      placed_within = λ m i s.
          elim (cases_eq m n) [
            | inl q ↦ omega (arith, more, ap (λ k. get_or (set places n v) k 0) q, here)
            | inr q ↦ omega (arith, more, h.placed_within m i (sym (get-other places n v l m q) ∙ s))
          ];
      placed = λ m i s.
          elim (cases_eq m n) [
            | inl q ↦
                let at : i ≡ length items = omega (arith, ap (λ k. get_or (set places n v) k 0) q, here) in
                ap (λ k. get_or (items ++ n ∷ []) k 0) at ∙ last ∙ sym q
            | inr q ↦
                let old : get_or places m 0 ≡ i + 1 = sym (get-other places n v l m q) ∙ s in
                get_or_append_left items (n ∷ []) 0 i (h.placed_within m i old) ∙ h.placed m i old
          ];
      many =
          let change : count_below (λ m. holds (set places n v) m) (length places) ≡ count_below (λ m. holds places m) (length places) + 1 =
          count_below-change (λ m. holds places m) (λ m. holds (set places n v) m) n (length places) l e
          (holds-from_placed (set places n v) n (omega (arith, here)))
          (λ m a ne. ap (ltb 0) (sym (get-other places n v l m ne)))
          in
          ap (count_below (λ m. holds (set places n v) m)) size ∙ omega (arith, change, h.many, more);
    }

-- With one number more, which is not listed, the list and its places are still right.
pub IsListing-grow : (items places : List ℕ) → IsListing items places → IsListing items (places ++ 0 ∷ [])
IsListing-grow items places h =
    let more : length (places ++ 0 ∷ []) ≡ length places + 1 = length_push places 0 in
    let old : (m : ℕ) → get_or (places ++ 0 ∷ []) m 0 ≡ get_or places m 0 = λ m.
    elim (cases_lt m (length places)) [
      | inl b ↦ get_or_append_left places (0 ∷ []) 0 m b
      | inr b ↦ elim (cases_eq (length places) m) [
        | inl s ↦ get_or_push places 0 0 m s ∙ sym (get_or_past places m 0 b)
        | inr s ↦ get_or_past (places ++ 0 ∷ []) m 0 (omega (arith, more)) ∙ sym (get_or_past places m 0 b)
      ]
    ]
    in
    record {
      within = λ i a. omega (arith, more, h.within i a);
      listed = λ i a. old (get_or items i 0) ∙ h.listed i a;
      placed_within = λ m i s. h.placed_within m i (sym (old m) ∙ s);
      placed = λ m i s. h.placed m i (sym (old m) ∙ s);
      many =
          let same : count_below (λ m. holds (places ++ 0 ∷ []) m) (length places) ≡ count_below (λ m. holds places m) (length places) =
          count_below-same (λ m. holds (places ++ 0 ∷ []) m) (λ m. holds places m) (length places) (λ m a. ap (ltb 0) (old m))
          in
          let last : bit (holds (places ++ 0 ∷ []) (length places)) ≡ 0 =
          bit-false (holds (places ++ 0 ∷ []) (length places))
          (holds-from_unplaced (places ++ 0 ∷ []) (length places) (get_or_push places 0 0 (length places) refl)) in
          let step : count_below (λ m. holds (places ++ 0 ∷ []) m) (length places + 1) ≡ length items =
          omega (arith, count_below-more (λ m. holds (places ++ 0 ∷ []) m) (length places), same, last, h.many) in
          ap (count_below (λ m. holds (places ++ 0 ∷ []) m)) more ∙ step;
    }

-- Without the last number the list and its places are still right.
pub IsListing-pop : (items places : List ℕ) (n : ℕ) → IsListing (items ++ n ∷ []) places → IsListing items (set places n 0)
IsListing-pop items places n h =
    let more : length (items ++ n ∷ []) ≡ length items + 1 = length_push items n in
    let last : get_or (items ++ n ∷ []) (length items) 0 ≡ n = get_or_push items n 0 (length items) refl in
    let item : (i : ℕ) → i < length items → get_or (items ++ n ∷ []) i 0 ≡ get_or items i 0 = λ i a. get_or_append_left items (n ∷ []) 0 i a in
    let l : n < length places = omega (arith, last, h.within (length items) (omega (arith, more))) in
    let place : get_or places n 0 ≡ length items + 1 = ap (λ k. get_or places k 0) (sym last) ∙ h.listed (length items) (omega (arith, more)) in
    let here : get_or (set places n 0) n 0 ≡ 0 = get-here places n 0 l in
    let size : length (set places n 0) ≡ length places = length-set places n 0 in
    let at_old : (i : ℕ) → i < length items → get_or places (get_or items i 0) 0 ≡ i + 1 =
    λ i a. ap (λ k. get_or places k 0) (sym (item i a)) ∙ h.listed i (omega (arith, more)) in
    let ne : (i : ℕ) → i < length items → get_or items i 0 ≢ n = λ i a s. omega (arith, place, ap (λ k. get_or places k 0) s, at_old i a) in
    let kept : (m i : ℕ) → get_or (set places n 0) m 0 ≡ i + 1 → m ≢ n = λ m i s q. omega (arith, here, s, ap (λ k. get_or (set places n 0) k 0) q) in
    let old : (m i : ℕ) → get_or (set places n 0) m 0 ≡ i + 1 → get_or places m 0 ≡ i + 1 = λ m i s. sym (get-other places n 0 l m (kept m i s)) ∙ s in
    let before : (m i : ℕ) → get_or (set places n 0) m 0 ≡ i + 1 → i < length items = λ m i s.
    elim (cases_lt i (length items)) [
      | inl b ↦ b
      | inr b ↦
          let at : i ≡ length items = omega (arith, more, h.placed_within m i (old m i s)) in
          absurd (kept m i s (sym (h.placed m i (old m i s)) ∙ ap (λ k. get_or (items ++ n ∷ []) k 0) at ∙ last))
    ]
    in
    record {
      within = λ i a. omega (arith, size, item i a, h.within i (omega (arith, more)));
      listed = λ i a. get-other places n 0 l (get_or items i 0) (ne i a) ∙ at_old i a;
      placed_within = before;
      placed = λ m i s. sym (item i (before m i s)) ∙ h.placed m i (old m i s);
      many =
          let change : count_below (λ m. holds places m) (length places) ≡ count_below (λ m. holds (set places n 0) m) (length places) + 1 =
          count_below-change (λ m. holds (set places n 0) m) (λ m. holds places m) n (length places) l
          (holds-from_unplaced (set places n 0) n here) (holds-from_placed places n (omega (arith, place)))
          (λ m a q. ap (ltb 0) (get-other places n 0 l m q))
          in
          ap (count_below (λ m. holds (set places n 0) m)) size ∙ omega (arith, change, h.many, more);
    }

-- one is taken out, and the last of the list takes its place
module _ (items places : List ℕ) (n index last : ℕ) (h : IsListing items places) (at : get_or places n 0 ≡ index + 1)
    (moved : get_or items (length items - 1) 0 ≡ last) where
  -- The place is one of the list.
  in_list : index < length items
  in_list = h.placed_within n index at

  -- The number is at its place.
  item_n : get_or items index 0 ≡ n
  item_n = h.placed n index at

  -- The last number has an entry.
  last_within : last < length places
  last_within = omega (arith, moved, h.within (length items - 1) (omega (arith, in_list)))

  -- The last number's entry is the length of the list.
  last_place : get_or places last 0 ≡ length items
  last_place = ap (λ k. get_or places k 0) (sym moved) ∙ h.listed (length items - 1) (omega (arith, in_list)) ∙ omega (arith, in_list)

  -- The number has an entry.
  n_within : n < length places
  n_within = within-from_holds places n (holds-from_placed places n (omega (arith, at)))

  -- Just the number is held no longer.
  pub holds-swap : (m : ℕ) → holds (set (set places last (index + 1)) n 0) m ≡ (holds places m && not (eqb m n))
  holds-swap m =
      let within : n < length (set places last (index + 1)) = omega (arith, n_within, length-set places last (index + 1)) in
      let first : holds (set places last (index + 1)) m ≡ holds places m =
      elim (cases_eq m last) [
        | inl e ↦
            let one : holds (set places last (index + 1)) m ≡ true =
            holds-from_placed (set places last (index + 1)) m
            (omega (
              arith,
              ap (λ k. get_or (set places last (index + 1)) k 0) e,
              get-here places last (index + 1) last_within,
            )) in
            let two : holds places m ≡ true = holds-from_placed places m (omega (arith, ap (λ k. get_or places k 0) e, last_place, in_list)) in
            one ∙ sym two
        | inr e ↦ ap (ltb 0) (get-other places last (index + 1) last_within m e)
      ]
      in
      holds-remove (set places last (index + 1)) n within m ∙ ap (λ b. b && not (eqb m n)) first

  -- The number has no place any more.
  place_n : get_or (set (set places last (index + 1)) n 0) n 0 ≡ 0
  place_n = get-here (set places last (index + 1)) n 0 (omega (arith, n_within, length-set places last (index + 1)))

  -- Each number but these two has its old place.
  place_other : (m : ℕ) → m ≢ n → m ≢ last → get_or (set (set places last (index + 1)) n 0) m 0 ≡ get_or places m 0
  place_other m a b = get-other (set places last (index + 1)) n 0
      (omega (arith, n_within, length-set places last (index + 1))) m a
      ∙ get-other places last (index + 1) last_within m b

  -- The last number has the place that is free now.
  place_last : last ≢ n → get_or (set (set places last (index + 1)) n 0) last 0 ≡ index + 1
  place_last a = get-other (set places last (index + 1)) n 0
      (omega (arith, n_within, length-set places last (index + 1))) last a
      ∙ get-here places last (index + 1) last_within

  -- the last is taken out exactly if it is the one
  last_is : last ≡ n → index + 1 ≡ length items
  last_is e = omega (arith, at, last_place, ap (λ k. get_or places k 0) e)

  -- The list is shorter by one.
  size_items : (d : ℕ) → length (swap_remove items index d) ≡ length items - 1
  size_items d = length-take-le (length items - 1) (set items index (get_or items (length items - 1) d))
      (omega (arith, length-set items index (get_or items (length items - 1) d)))

  -- Each other place below the new length has its old number.
  item_at : (d i : ℕ) → i < length items - 1 → i ≢ index → get_or (swap_remove items index d) i 0 ≡ get_or items i 0
  item_at d i a b = get_or-take (length items - 1) (set items index (get_or items (length items - 1) d)) i 0 a
      ∙ get_or-set_other items index i (get_or items (length items - 1) d) 0 b

  -- The free place has the last number.
  item_moved : (d : ℕ) → index < length items - 1 → get_or (swap_remove items index d) index 0 ≡ last
  item_moved d a =
      get_or-take (length items - 1) (set items index (get_or items (length items - 1) d)) index 0 a
      ∙ get_or-set_same items index (get_or items (length items - 1) d) 0 in_list
      ∙ get_or_default items (length items - 1) d 0 (omega (arith, in_list))
      ∙ moved

  -- who has place i + 1 afterwards
  was : (m i : ℕ) → get_or (set (set places last (index + 1)) n 0) m 0 ≡ i + 1
      → ((m ≡ last) × (i ≡ index) × (index < length items - 1))
      ⊎ ((get_or places m 0 ≡ i + 1) × (i ≢ index) × (i < length items - 1))
  was m i e =
      elim (cases_eq m n) [
        | inl q ↦ absurd (omega (arith, e, place_n, ap (λ k. get_or (set (set places last (index + 1)) n 0) k 0) q))
        | inr q ↦
            elim (cases_eq m last) [
              | inl r ↦
                  let place : get_or (set (set places last (index + 1)) n 0) m 0 ≡ index + 1 =
                  ap (λ k. get_or (set (set places last (index + 1)) n 0) k 0) r ∙ place_last (λ s. q (r ∙ s)) in
                  let apart : index + 1 ≢ length items = λ s.
                  q (r ∙ sym moved ∙ ap (λ k. get_or items k 0) (omega (arith, s)) ∙ item_n)
                  in
                  inl (r, omega (arith, e, place), omega (arith, in_list, apart))
              | inr r ↦
                  let place : get_or places m 0 ≡ i + 1 = sym (place_other m q r) ∙ e in
                  let apart : i ≢ index = λ s. q (sym (h.placed m i place) ∙ ap (λ k. get_or items k 0) s ∙ item_n) in
                  let not_last : i ≢ length items - 1 = λ s. r (sym (h.placed m i place) ∙ ap (λ k. get_or items k 0) s ∙ moved) in
                  inr (place, apart, omega (arith, h.placed_within m i place, not_last))
            ]
      ]

  -- Without the number the list and its places are still right: the last one has taken its place.
  pub IsListing-swap : (d : ℕ) → IsListing (swap_remove items index d) (set (set places last (index + 1)) n 0)
  IsListing-swap d =
      let size : length (set (set places last (index + 1)) n 0) ≡ length places =
      length-set (set places last (index + 1)) n 0 ∙ length-set places last (index + 1) in
      let items_size = size_items d in
      record {
        within = λ i a.
            elim (cases_eq i index) [
              | inl q ↦ omega (arith, size, last_within, ap (λ k. get_or (swap_remove items index d) k 0) q, item_moved d (omega (arith, items_size)))
              | inr q ↦ omega (arith, size, item_at d i (omega (arith, items_size)) q, h.within i (omega (arith, items_size)))
            ];
        listed = λ i a.
            elim (cases_eq i index) [
              | inl q ↦
                  let item : get_or (swap_remove items index d) i 0 ≡ last =
                  ap (λ k. get_or (swap_remove items index d) k 0) q ∙ item_moved d (omega (arith, items_size)) in
                  let apart : last ≢ n = λ s. omega (arith, last_is s, items_size) in
                  omega (arith, ap (λ k. get_or (set (set places last (index + 1)) n 0) k 0) item, place_last apart)
              | inr q ↦
                  let item : get_or (swap_remove items index d) i 0 ≡ get_or items i 0 = item_at d i (omega (arith, items_size)) q in
                  let place : get_or places (get_or items i 0) 0 ≡ i + 1 = h.listed i (omega (arith, items_size)) in
                  let not_n : get_or items i 0 ≢ n = λ s. omega (arith, q, at, place, ap (λ k. get_or places k 0) s) in
                  let not_last : get_or items i 0 ≢ last = λ s. omega (arith, place, last_place, ap (λ k. get_or places k 0) s, items_size) in
                  omega (arith, ap (λ k. get_or (set (set places last (index + 1)) n 0) k 0) item, place_other (get_or items i 0) not_n not_last, place)
            ];
        placed_within = λ m i e. elim (was m i e) [ inl w ↦ omega (arith, w.1, w.2, items_size) | inr w ↦ omega (arith, w.2, items_size) ];
        placed = λ m i e.
            elim (was m i e) [
              | inl w ↦ ap (λ k. get_or (swap_remove items index d) k 0) w.1 ∙ item_moved d w.2 ∙ sym w.0
              | inr w ↦ item_at d i w.2 w.1 ∙ h.placed m i w.0
            ];
        many =
            let held : holds places n ≡ true = holds-from_placed places n (omega (arith, at)) in
            let change : count_below (λ m. holds places m) (length places)
            ≡ count_below (λ m. holds (set (set places last (index + 1)) n 0) m) (length places) + 1 =
            count_below-change (λ m. holds (set (set places last (index + 1)) n 0) m) (λ m. holds places m) n
            (length places) n_within (holds-from_unplaced (set (set places last (index + 1)) n 0) n place_n) held
            (λ m a q. holds-swap m ∙ ap (λ b. holds places m && not b) (ne_eqb m n q) ∙ and-true (holds places m))
            in
            ap (count_below (λ m. holds (set (set places last (index + 1)) n 0) m)) size ∙ omega (arith, change, h.many, items_size);
      }
    where
      and-true : (b : Bool) → (b && true) ≡ b
      and-true true = refl
      and-true false = refl
