-- Finite sets, kept as strictly sorted lists: a set has one such list, and a binary search finds
-- its members.
use Rattle.std.proofs.Common.{◌≡◌, ℕ, zero, suc, ◌<◌, ◌≤◌, ◌⊎◌, inl, inr, ⊎_elim, List, [], ◌∷◌, length, get_or, false}
use Rattle.std.proofs.Common.{Some, Less, Equal, Greater, refl, sym, ap, ap₂, ◌∙◌, subst, arith, add-one}
use Rattle.std.specs.Cmp.{IsTotalOrder}
use Rattle.std.specs.Ordering.{ordering_reverse, ordering_index, is_lt}
use Rattle.std.specs.declared.cmp.Ordering.{Ordering}
use Rattle.std.specs.List.{AllByRecursion, Contains, slice_get}
use Rattle.std.specs.List.Sorted.{IsStrictlySortedBy, IsSorted, IsNonDecreasingBy, IsPartitionPoint}
use Rattle.std.proofs.lemmas.Bool.{cases_lt}
use Rattle.std.proofs.lemmas.Cmp.{tied_itself}
use Rattle.std.proofs.lemmas.List.Sorted.{searchable_from_sorted}

-- ---- members

-- the element is a member
abbrev pub Has : {X : Type 0} → List X → X → Type 0
Has [] x = ⊥
Has (y ∷ ys) x = (x ≡ y) ⊎ Has ys x

-- the element at an index is a member
has_at : {X : Type 0} (xs : List X) (x : X) (k : ℕ) → k < length xs → get_or xs k x ≡ x → Has xs x
has_at [] x k below at = absurd (omega arith)
has_at (y ∷ ys) x zero below at = inl (sym at)
has_at (y ∷ ys) x (suc k) below at = inr (has_at ys x k (omega arith) at)

-- an element at some index is a member
pub Has-Contains : {X : Type 0} (xs : List X) (x : X) → Contains xs x → Has xs x
Has-Contains xs x h = has_at xs x h.0 h.1 h.2

-- a member is at some index
pub Contains-Has : {X : Type 0} (xs : List X) (x : X) → Has xs x → Contains xs x
Contains-Has [] x h = absurd h
Contains-Has (y ∷ ys) x (inl e) = (zero, omega arith, sym e)
Contains-Has (y ∷ ys) x (inr h) = let rest = Contains-Has ys x h in (suc rest.0, omega (arith, rest.1), rest.2)

-- what holds of each element holds of a member
pub each_has : {X : Type 0} (P : X → Type 0) (xs : List X) (x : X) → AllByRecursion P xs → Has xs x → P x
each_has P [] x all h = absurd h
each_has P (y ∷ ys) x all (inl e) = subst P (sym e) all.0
each_has P (y ∷ ys) x all (inr h) = each_has P ys x all.1 h

-- what holds of all members holds of each element
pub each_from_has : {X : Type 0} (P : X → Type 0) (xs : List X) → ((x : X) → Has xs x → P x) → AllByRecursion P xs
each_from_has P [] all = tt
each_from_has P (y ∷ ys) all = (all y (inl refl), each_from_has P ys (λ x h. all x (inr h)))

-- an index below the length finds the element there
pub slice_get_at : {X : Type 0} (xs : List X) (k : ℕ) (d : X) → k < length xs → slice_get xs k ≡ Some (get_or xs k d)
slice_get_at [] k d below = absurd (omega arith)
slice_get_at (y ∷ ys) zero d below = refl
slice_get_at (y ∷ ys) (suc k) d below = slice_get_at ys k d (omega arith)

-- ---- a set has one strictly sorted list

module _ {X : Type 0} {R : X → X → Ordering} (o : IsTotalOrder R) where
  -- the element is below each of these
  abbrev Below : X → List X → Type 0
  Below x others = AllByRecursion (λ y. R x y ≡ Less) others

  -- no element is below itself
  not_below_itself : (x : X) → R x x ≡ Less → ⊥
  not_below_itself x h = let same = tied_itself o x in cc

  -- no two elements are below each other
  not_both : (x y : X) → R x y ≡ Less → R y x ≡ Less → ⊥
  not_both x y p q = let above : R x y ≡ Greater = o.antisymm x y ∙ ap ordering_reverse q in cc

  -- the first of a strictly sorted list is the first of any other with the same members
  same_first : (x y : X) (others more : List X) → Below x others → Below y more → Has (y ∷ more) x → Has (x ∷ others) y → x ≡ y
  same_first x y others more p q (inl e) there = e
  same_first x y others more p q (inr here) (inl e) = sym e
  same_first x y others more p q (inr here) (inr there) = absurd (not_both x y (each_has _ others y p there) (each_has _ more x q here))

  -- an element that is below a list is not a member of it
  not_again : (x : X) (others : List X) → Below x others → Has others x → ⊥
  not_again x others h has = not_below_itself x (each_has _ others x h has)

  -- without the first, which both have, the members of one list are still members of the other
  tail_has : (x z : X) (others more : List X) → Below x others → ((y : X) → Has (x ∷ others) y → Has (x ∷ more) y) → Has others z → Has more z
  tail_has x z others more below all has = elim (all z (inr has)) [
    | inl e ↦ absurd (not_again x others below (subst (Has others) e has))
    | inr there ↦ there
  ]

  -- strictly sorted lists with the same members are equal
  pub rising_same : (xs ys : List X) → IsStrictlySortedBy R xs → IsStrictlySortedBy R ys
      → ((x : X) → Has xs x → Has ys x) → ((x : X) → Has ys x → Has xs x) → xs ≡ ys
  unfolding IsStrictlySortedBy
  rising_same [] [] p q there back = refl
  rising_same [] (y ∷ ys) p q there back = absurd (back y (inl refl))
  rising_same (x ∷ xs) [] p q there back = absurd (there x (inl refl))
  rising_same (x ∷ xs) (y ∷ ys) p q there back =
      let first : x ≡ y = same_first x y xs ys p.0 q.0 (there x (inl refl)) (back y (inl refl)) in
      let forward : (z : X) → Has (x ∷ xs) z → Has (x ∷ ys) z = λ z h. subst (λ w. Has (w ∷ ys) z) (sym first) (there z h) in
      let backward : (z : X) → Has (x ∷ ys) z → Has (x ∷ xs) z = λ z h. back z (subst (λ w. Has (w ∷ ys) z) first h) in
      let below : Below x ys = subst (λ w. Below w ys) (sym first) q.0 in
      ap₂ (λ z l. z ∷ l) first
      (rising_same xs ys p.1 q.1 (λ z. tail_has x z xs ys p.0 forward) (λ z. tail_has x z ys xs below backward))

  -- ---- a strictly sorted list is sorted

  -- what is above is not less
  falls_back : (x y : X) → R x y ≡ Less → is_lt (R y x) ≡ false
  falls_back x y below = let above : R y x ≡ Greater = o.antisymm y x ∙ ap ordering_reverse below in ap is_lt above

  -- in a strictly sorted list no element is less than the one before it
  sorted_at : (xs : List X) (k : ℕ) (d : X) → IsStrictlySortedBy R xs → suc k < length xs → is_lt (R (get_or xs (suc k) d) (get_or xs k d)) ≡ false
  unfolding IsStrictlySortedBy
  sorted_at [] k d rising below = absurd (omega arith)
  sorted_at (x ∷ []) k d rising below = absurd (omega arith)
  sorted_at (x ∷ y ∷ ys) zero d rising below = falls_back x y rising.0.0
  sorted_at (x ∷ y ∷ ys) (suc k) d rising below = sorted_at (y ∷ ys) k d rising.1 (omega arith)

  -- a strictly sorted list is sorted
  pub sorted : (xs : List X) → IsStrictlySortedBy R xs → IsSorted R xs
  sorted xs rising k d low below = subst (λ n. is_lt (R (get_or xs n d) (get_or xs k d)) ≡ false) (sym (add-one k)) (sorted_at xs k d rising (omega arith))

-- ---- a binary search

module _ {X K : Type 0} {R : K → K → Ordering} (o : IsTotalOrder R) (key : X → K) where
  -- the order of elements by their keys
  abbrev by_key : X → X → Ordering
  by_key a b = R (key a) (key b)

  -- what a binary search does not find is not a key of a member
  pub not_found : (xs : List X) (x : K) (i : ℕ) → IsSorted by_key xs
      → (IsNonDecreasingBy (λ y. ordering_index (R (key y) x)) xs
      → IsPartitionPoint (λ y. R (key y) x ≡ Less) (λ y. R (key y) x ≡ Greater) xs i) → (y : X) → Contains xs y
      → key y ≡ x → ⊥
  not_found xs x i rising splits y has same =
      let split = splits (searchable_from_sorted o key xs x rising) in
      let tied : R (key (get_or xs has.0 y)) x ≡ Equal =
      subst (λ z. R (key z) x ≡ Equal) (sym has.2) (subst (λ k. R (key y) k ≡ Equal) same (tied_itself o (key y)))
      in
      ⊎_elim
      (λ (before : has.0 < i). let less = split.0 has.0 y (omega arith) before in cc)
      (λ (behind : i ≤ has.0). let greater = split.1 has.0 y behind has.1 in cc)
      (cases_lt has.0 i)
