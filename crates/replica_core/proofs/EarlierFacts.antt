-- The items that came before, known by numbers in order.
use Rattle.std.proofs.Common.{◌≡◌, ℕ, zero, suc, ◌+◌, ◌<◌, ◌≤◌, inl, inr, Bool, true, false, ◌||◌, List, [], ◌∷◌, length}
use Rattle.std.proofs.Common.{take, drop, get_or, refl, sym, ap, ◌∙◌, subst, arith, ◌-◌}
use Rattle.std.proofs.lemmas.List.Edits.{length-insert, get_or-insert_below, get_or-insert_at, get_or-insert_above}
use Rattle.std.specs.Prelude.{slice_get, Option, Some, None, IfSome}
use Rattle.std.specs.declared.cmp.Ordering.{Ordering}
use Rattle.std.specs.Ordering.{eq_by_cmp, is_eq}
use Rattle.std.specs.Cmp.{IsTotalOrder, IsEquivalence, eq_by_cmp_equiv}
use Rattle.std.specs.List.{All, insert, list_any}
use Rattle.std.specs.List.Sorted.{IsStrictlySortedBy}
use Rattle.std.proofs.lemmas.Bool.{cases_lt}
use Rattle.std.proofs.lemmas.List.Folds.{list_any-append, list_any_at, list_any_more, list_any_none}
use Rattle.std.proofs.lemmas.Option.{slice_get-get_or}
use Rattle.receipt_core.specs.Rising.{with_item}
use Rattle.sorted_order.specs.Sequence.{Sequence}
use Rattle.sorted_order.specs.Sought.{IsRising, IsFound, IsMissing}
use Rattle.sorted_order.specs.ArenaView.{picked, compared_at}
use Rattle.sorted_order.proofs.PickedFacts.{found_of_items, missing_of_items, picked-put, rising_numbers}
use Rattle.closure_core.proofs.RisingFacts.{sought, with_item_at, with_item_rising}
use Rattle.replica_core.specs.Inside.Earlier.{Front, AreNoted, has_equal}

-- There is no item before the first one.
take_none : {T : Type 0} (items : List T) → take 0 items ≡ []
take_none [] = refl
take_none (x ∷ xs) = refl

-- The empty list rises.
none_rises : {T : Type 0} (cmp : T → T → Ordering) → IsStrictlySortedBy cmp []
unfolding IsStrictlySortedBy
none_rises cmp = tt

-- At first no number is noted.
pub noted-none : {T : Type 0} (cmp : T → T → Ordering) (items : List T) → AreNoted cmp items 0 []
noted-none {T} cmp items = record {
  within = λ k d h. absurd (omega arith);
  rising = none_rises cmp;
  same = λ x. ap (λ (xs : List T). has_equal cmp xs x) (sym (take_none items));
}

-- Tests that agree on each item agree on a list.
any_same : {T : Type 0} (p q : T → Bool) → ((y : T) → p y ≡ q y) → (xs : List T) → list_any p xs ≡ list_any q xs
any_same p q e [] = refl
any_same p q e (y ∷ ys) = ap (λ b. b || list_any p ys) (e y) ∙ ap (λ b. q y || b) (any_same p q e ys)

-- The last of three tests may come between the others.
or_middle : (a b c : Bool) → (a || (b || c)) ≡ ((a || c) || b)
or_middle false false false = refl
or_middle false false true = refl
or_middle false true false = refl
or_middle false true true = refl
or_middle true b c = refl

-- A test adds nothing to one that passes if it does.
or_within : (a b : Bool) → (b ≡ true → a ≡ true) → a ≡ (a || b)
or_within false false h = refl
or_within false true h = h refl
or_within true b h = refl

-- A list passes a test if its front or the rest does.
any_parts : {T : Type 0} (p : T → Bool) (xs : List T) (n : ℕ) → list_any p xs ≡ (list_any p (take n xs) || list_any p (drop n xs))
any_parts p [] zero = refl
any_parts p [] (suc n) = refl
any_parts p (x ∷ xs) zero = refl
any_parts p (x ∷ xs) (suc n) = or_over (p x) _ _ _ (any_parts p xs n)
  where
    or_over : (b r f l : Bool) → r ≡ (f || l) → (b || r) ≡ ((b || f) || l)
    or_over false r f l e = e
    or_over true r f l e = refl

-- An item put into a list is one more that may pass a test.
any_insert : {T : Type 0} (p : T → Bool) (xs : List T) (n : ℕ) (x : T) → list_any p (insert xs n x) ≡ (list_any p xs || p x)
any_insert p xs n x =
    list_any-append p (take n xs) (x ∷ drop n xs) ∙ or_middle (list_any p (take n xs)) (p x) (list_any p (drop n xs))
    ∙ ap (λ b. b || p x) (sym (any_parts p xs n))

module _ {T : Type 0} (cmp : T → T → Ordering) (total : IsTotalOrder cmp) (items : List T) (count : ℕ) (numbers : List ℕ)
    (noted : AreNoted cmp items count numbers) (x : T) where
  -- The noted numbers rise for what is sought, so they can be searched.
  pub noted-sought : IsRising (λ n. compared_at (λ y. cmp y x) items n) numbers
  noted-sought = rising_numbers (λ y. cmp y x) items numbers noted.within record { rising = sought total (picked items numbers) x noted.rising }

  -- What the search finds came before.
  pub noted-found : (place : ℕ) → IsFound (λ n. compared_at (λ y. cmp y x) items n) numbers place → true ≡ has_equal cmp (take count items) x
  noted-found place found =
      let here = found_of_items (λ y. cmp y x) items numbers place noted.within found in
      sym (list_any_at (λ y. eq_by_cmp cmp y x) (picked items numbers) place x here.within (ap is_eq (here.here x))) ∙ noted.same x

  -- What the search does not find did not come before.
  pub noted-missing : (place : ℕ) → IsMissing (λ n. compared_at (λ y. cmp y x) items n) numbers place → false ≡ has_equal cmp (take count items) x
  noted-missing place missing =
      let here = missing_of_items (λ y. cmp y x) items numbers place noted.within missing in
      sym (list_any_none (λ y. eq_by_cmp cmp y x) (picked items numbers) (λ k d h. elim (cases_lt k place) [
        | inl low ↦ ap is_eq (here.before k d (omega arith) low)
        | inr high ↦ ap is_eq (here.after k d (omega arith) h)
      ])) ∙ noted.same x

  -- With one item more, an item has come before if it is equal to that one or came before.
  next_has : (z : T) → slice_get items count ≡ Some x → count < length items
      → has_equal cmp (take (count + 1) items) z ≡ (has_equal cmp (take count items) z || eq_by_cmp cmp x z)
  next_has z e h =
      let read : Some (get_or items count x) ≡ Some x = sym (slice_get-get_or items count x h) ∙ e in
      let here : get_or items count x ≡ x = cc in
      list_any_more (λ y. eq_by_cmp cmp y z) items count x h ∙ ap (λ y. has_equal cmp (take count items) z || eq_by_cmp cmp y z) here

  -- An item that is equal to one before it needs no number.
  pub noted-again : slice_get items count ≡ Some x → count < length items → true ≡ has_equal cmp (take count items) x → AreNoted cmp items (count + 1) numbers
  noted-again e h found = record {
    within = noted.within;
    rising = noted.rising;
    same = λ z.
        let laws : IsEquivalence (eq_by_cmp cmp) = eq_by_cmp_equiv total in
        noted.same z
        ∙ or_within (has_equal cmp (take count items) z) (eq_by_cmp cmp x z) (λ tied.
        any_same (λ y. eq_by_cmp cmp y z) (λ y. eq_by_cmp cmp y x)
        (λ y. laws.symm y z ∙ sym (laws.congr x z y tied) ∙ laws.symm x y) (take count items) ∙ sym found)
        ∙ sym (next_has z e h);
  }

  -- The number of an item that is not equal to one before it goes to the end of the search.
  pub noted-more : (place : ℕ) → slice_get items count ≡ Some x → count < length items → place ≤ length numbers
      → IsMissing (λ n. compared_at (λ y. cmp y x) items n) numbers place → AreNoted cmp items (count + 1) (insert numbers place count)
  noted-more place e h low missing =
      let here = missing_of_items (λ y. cmp y x) items numbers place noted.within missing in
      let put = picked-put items numbers place count x noted.within e in
      let placed : with_item cmp x (picked items numbers) ≡ insert (picked items numbers) place x =
      with_item_at total x (picked items numbers) place here.within here.before here.after in
      record {
        within = inserted_within place h low;
        rising = subst (IsStrictlySortedBy cmp) (placed ∙ sym put) (with_item_rising total x (picked items numbers) noted.rising);
        same = λ z.
            ap (λ (xs : List T). has_equal cmp xs z) put
            ∙ any_insert (λ y. eq_by_cmp cmp y z) (picked items numbers) place x
            ∙ ap (λ b. b || eq_by_cmp cmp x z) (noted.same z)
            ∙ sym (next_has z e h);
      }
    where
      inserted_within : (place : ℕ) → count < length items → place ≤ length numbers → All (λ n. n < length items) (insert numbers place count)
      inserted_within place h low = λ k d w.
          let size = length-insert numbers place count low in
          elim (cases_lt k place) [
            | inl below ↦ rw (get_or-insert_below numbers place count d k below low) (noted.within k d (omega arith))
            | inr not_below ↦ elim (cases_lt place k) [
              | inl above ↦
                  let before : k ≡ (k - 1) + 1 = omega arith in
                  let moved : get_or (insert numbers place count) k d ≡ get_or numbers (k - 1) d =
                  ap (λ n. get_or (insert numbers place count) n d) before ∙ get_or-insert_above numbers place count d (k - 1) (omega arith) low in
                  rw moved (noted.within (k - 1) d (omega (arith, size)))
              | inr not_above ↦
                  let here : k ≡ place = omega arith in
                  let read : get_or (insert numbers place count) k d ≡ count =
                  ap (λ n. get_or (insert numbers place count) n d) here ∙ get_or-insert_at numbers place count d low in
                  omega (arith, read, h)
            ]
          ]

-- The numbers with one more, if there was memory for it.
pub noted-if : {T : Type 0} (cmp : T → T → Ordering) (items : List T) (count : ℕ) (numbers : List ℕ) (order : Option Sequence)
    → IfSome order (λ o. o.items ≡ numbers) → AreNoted cmp items count numbers → IfSome order (λ o. AreNoted cmp items count o.items)
noted-if cmp items count numbers None e noted = tt
noted-if cmp items count numbers (Some o) e noted = subst (AreNoted cmp items count) (sym e) noted

-- A place that has an item is within the list.
pub place-within : {T : Type 0} (items : List T) (n : ℕ) (x : T) → slice_get items n ≡ Some x → n < length items
place-within [] n x e = absurd (let f : None ≡ Some x = e in cc)
place-within (y ∷ ys) zero x e = omega arith
place-within (y ∷ ys) (suc n) x e = omega (arith, place-within ys n x e)

-- After one more item, the next one is the loop's next.
pub front-next : {T : Type 0} (old new : Front T) (items : List T) (i : ℕ) → old ≡ record { items = items; count = i }
    → new.items ≡ old.items → new.count ≡ old.count + 1 → new ≡ record { items = items; count = i + 1 }
front-next {T} old new items i here same count =
    let whole : new.items ≡ items = same ∙ ap (λ (f : Front T). f.items) here in
    let more : new.count ≡ i + 1 = count ∙ ap (λ (f : Front T). f.count + 1) here in
    λ k. record { items = whole k; count = more k }
