-- Sorted lists, their parts and their joins
use Rattle.std.proofs.Common.{◌≡◌, ℕ, ◌<◌, ◌≤◌, inl, inr, List, [], ◌∷◌, ◌++◌, length, Less, Greater, sym, ap, ◌∙◌, subst, arith, append_assoc}
use Rattle.std.specs.declared.cmp.Ordering.{Ordering}
use Rattle.std.specs.Ordering.{ordering_reverse}
use Rattle.std.specs.Cmp.{IsTotalOrder, tied_itself}
use Rattle.std.specs.List.{Contains}
use Rattle.std.specs.List.Sorted.{IsStrictlySortedBy}
use Rattle.std.proofs.lemmas.List.Elements.{Contains-append_left, Contains-append_right, Contains-append_cases}
use Rattle.closure_core.proofs.ContainsFacts.{contains_first, contains_later, contains_none, contains_cases}
use Rattle.receipt_core.proofs.RisingFacts.{Contains-from_has, Has-from_contains, each_has, all_from_has, same_members}

-- no item is below itself
pub not_below_itself : {A : Type 0} {cmp : A → A → Ordering} → IsTotalOrder cmp → (x : A) → cmp x x ≡ Less → ⊥
not_below_itself {A} {cmp} o x h = let same = tied_itself o x in cc

-- no two items are below each other
pub not_both : {A : Type 0} {cmp : A → A → Ordering} → IsTotalOrder cmp → (x y : A) → cmp x y ≡ Less → cmp y x ≡ Less → ⊥
not_both {A} {cmp} o x y p q = let above : cmp x y ≡ Greater = o.antisymm x y ∙ ap ordering_reverse q in cc

-- sorted lists with the same items are equal
pub same_list : {A : Type 0} (cmp : A → A → Ordering) → IsTotalOrder cmp → (xs ys : List A) → IsStrictlySortedBy cmp xs → IsStrictlySortedBy cmp ys
    → ((a : A) → Contains xs a → Contains ys a) → ((a : A) → Contains ys a → Contains xs a) → xs ≡ ys
same_list cmp t xs ys p q there back =
    same_members cmp t xs ys p q (λ a h. Has-from_contains ys a (there a (Contains-from_has xs a h)))
    (λ a h. Has-from_contains xs a (back a (Contains-from_has ys a h)))

module _ {A : Type 0} (cmp : A → A → Ordering) where
  -- the first of a sorted list is below all others
  pub rising_first : (x : A) (xs : List A) (y : A) → IsStrictlySortedBy cmp (x ∷ xs) → Contains xs y → cmp x y ≡ Less
  unfolding IsStrictlySortedBy
  rising_first x xs y p has = each_has (λ z. cmp x z ≡ Less) xs y p.0 (Has-from_contains xs y has)

  -- the rest of a sorted list rises
  pub rising_rest : (x : A) (xs : List A) → IsStrictlySortedBy cmp (x ∷ xs) → IsStrictlySortedBy cmp xs
  unfolding IsStrictlySortedBy
  rising_rest x xs p = p.1

  -- a sorted list rises with an item in front that is below all of it
  pub rising_cons : (x : A) (xs : List A) → ((y : A) → Contains xs y → cmp x y ≡ Less) → IsStrictlySortedBy cmp xs → IsStrictlySortedBy cmp (x ∷ xs)
  unfolding IsStrictlySortedBy
  rising_cons x xs below p = (all_from_has (λ z. cmp x z ≡ Less) xs (λ a h. below a (Contains-from_has xs a h)), p)

  -- the empty list rises
  pub rising_none : IsStrictlySortedBy cmp []
  unfolding IsStrictlySortedBy
  rising_none = tt

  -- a list of one item rises
  pub rising_one : (x : A) → IsStrictlySortedBy cmp (x ∷ [])
  unfolding IsStrictlySortedBy
  rising_one x = (tt, tt)

  -- two sorted lists, all of one below all of the other, rise as one
  pub rising_append : (xs ys : List A) → IsStrictlySortedBy cmp xs → IsStrictlySortedBy cmp ys
      → ((x y : A) → Contains xs x → Contains ys y → cmp x y ≡ Less) → IsStrictlySortedBy cmp (xs ++ ys)
  rising_append [] ys p q below = q
  rising_append (x ∷ xs) ys p q below =
      rising_cons x (xs ++ ys)
      (λ a h. elim (Contains-append_cases xs ys a h) [
        | inl here ↦ rising_first x xs a p here
        | inr there ↦ below x a (contains_first x xs) there
      ])
      (rising_append xs ys (rising_rest x xs p) q (λ a b h k. below a b (contains_later x xs a h) k))

  -- the back of a sorted list rises
  pub rising_right : (xs ys : List A) → IsStrictlySortedBy cmp (xs ++ ys) → IsStrictlySortedBy cmp ys
  rising_right [] ys p = p
  rising_right (x ∷ xs) ys p = rising_right xs ys (rising_rest x (xs ++ ys) p)

  -- the front of a sorted list rises
  pub rising_left : (xs ys : List A) → IsStrictlySortedBy cmp (xs ++ ys) → IsStrictlySortedBy cmp xs
  rising_left [] ys p = rising_none
  rising_left (x ∷ xs) ys p =
      rising_cons x xs (λ a h. rising_first x (xs ++ ys) a p (Contains-append_left xs ys a h)) (rising_left xs ys (rising_rest x (xs ++ ys) p))

  -- all in front of a sorted list is below all in its back
  pub rising_across : (xs ys : List A) (x y : A) → IsStrictlySortedBy cmp (xs ++ ys) → Contains xs x → Contains ys y → cmp x y ≡ Less
  rising_across [] ys x y p h k = absurd (contains_none x h)
  rising_across (z ∷ xs) ys x y p h k = elim (contains_cases z xs x h) [
    | inl e ↦ subst (λ w. cmp w y ≡ Less) e (rising_first z (xs ++ ys) y p (Contains-append_right xs ys y k))
    | inr later ↦ rising_across xs ys x y (rising_rest z (xs ++ ys) p) later k
  ]

  -- two items of a sorted list, neither below the other, are one
  pub only_one : (xs : List A) (x y : A) → IsStrictlySortedBy cmp xs → Contains xs x → Contains xs y → (cmp x y ≡ Less → ⊥) → (cmp y x ≡ Less → ⊥) → x ≡ y
  only_one [] x y p h k l r = absurd (contains_none x h)
  only_one (z ∷ xs) x y p h k l r = elim (contains_cases z xs x h) [
    | inl e ↦ elim (contains_cases z xs y k) [
      | inl f ↦ sym e ∙ f
      | inr later ↦ absurd (l (subst (λ w. cmp w y ≡ Less) e (rising_first z xs y p later)))
    ]
    | inr here ↦ elim (contains_cases z xs y k) [
      | inl f ↦ absurd (r (subst (λ w. cmp w x ≡ Less) f (rising_first z xs x p here)))
      | inr later ↦ only_one xs x y (rising_rest z xs p) here later l r
    ]
  ]

  -- a list of one item at most does not have all of a sorted list of two or more
  pub two_in_one : IsTotalOrder cmp → (xs ys : List A) → IsStrictlySortedBy cmp xs → 2 ≤ length xs
      → ((x : A) → Contains xs x → Contains ys x) → length ys < 2 → ⊥
  two_in_one o [] ys p many within few = omega arith
  two_in_one o (x ∷ []) ys p many within few = omega arith
  two_in_one o (x ∷ y ∷ xs) [] p many within few = contains_none x (within x (contains_first x (y ∷ xs)))
  two_in_one o (x ∷ y ∷ xs) (z ∷ w ∷ ys) p many within few = omega arith
  two_in_one o (x ∷ y ∷ xs) (z ∷ []) p many within few = elim (contains_cases z [] x (within x (contains_first x (y ∷ xs)))) [
    | inr none ↦ contains_none x none
    | inl e ↦ elim (contains_cases z [] y (within y (contains_later x (y ∷ xs) y (contains_first y xs)))) [
      | inr none ↦ contains_none y none
      | inl f ↦
          let below : cmp x y ≡ Less = rising_first x (y ∷ xs) y p (contains_first y xs) in
          let same : y ≡ x = sym f ∙ e in
          not_below_itself o x (subst (λ v. cmp x v ≡ Less) same below)
    ]
  ]

-- a list of two or more has a member
pub first_of : {A : Type 0} (xs : List A) → 2 ≤ length xs → (x : A) × Contains xs x
first_of [] many = absurd (omega arith)
first_of (x ∷ xs) many = (x, contains_first x xs)

-- texts that are added one after the other
pub joined : (o a b x y : List ℕ) → x ≡ o ++ a → y ≡ x ++ b → y ≡ o ++ (a ++ b)
joined o a b x y p q = q ∙ ap (λ z. z ++ b) p ∙ append_assoc o a b
