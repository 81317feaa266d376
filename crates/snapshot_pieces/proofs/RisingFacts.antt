-- Sorted lists: what comes behind the last item, and how many items there are.
use Rattle.std.proofs.Common.{◌≡◌, ◌≤◌, inl, inr, List, [], ◌∷◌, ◌++◌, length, Contains, Option, None, Some, Less}
use Rattle.std.proofs.Common.{refl, subst, arith}
use Rattle.std.specs.Cmp.{IsTotalOrder}
use Rattle.std.specs.List.{AllByRecursion, last_or}
use Rattle.std.specs.List.Sorted.{IsStrictlySortedBy}
use Rattle.std.specs.declared.cmp.Ordering.{Ordering}
use Rattle.std.proofs.lemmas.List.Elements.{Contains-append_right}
use Rattle.closure_core.proofs.RisingFacts.{not_again}
use Rattle.replica_core.proofs.ContainsFacts.{contains-here, contains-later, contains-cases, contains-none, each-from, each-to}
use Rattle.replica_core.proofs.RisingListFacts.{all_front, rising_append, rising_cons, rising_head, rising_nil, rising_tail}

-- ---- the last item

-- The last item of two lists together is that of the second, or of the first if it has none.
pub last_append : {A : Type 0} (o : Option A) (xs ys : List A) → last_or (last_or o xs) ys ≡ last_or o (xs ++ ys)
last_append o [] ys = refl
last_append o (x ∷ xs) ys = last_append (Some x) xs ys

-- the item is above this one, if there is one
abbrev pub IsAbove : {A : Type 0} → (A → A → Ordering) → Option A → A → Type 0
IsAbove R None y = Unit {0}
IsAbove R (Some x) y = R x y ≡ Less

-- What is above each of them, and above what came before, is above the last.
pub above_last : {A : Type 0} (R : A → A → Ordering) (o : Option A) (xs : List A) (y : A) → IsAbove R o y
    → AllByRecursion (λ x. R x y ≡ Less) xs → IsAbove R (last_or o xs) y
above_last R o [] y h all = h
above_last R o (x ∷ xs) y h all = above_last R (Some x) xs y all.0 all.1

-- In a sorted list, each item of the front is below each that follows.
pub front_below : {A : Type 0} (R : A → A → Ordering) (xs ys : List A) (y : A) → IsStrictlySortedBy R (xs ++ ys) → Contains ys y
    → AllByRecursion (λ x. R x y ≡ Less) xs
front_below R [] ys y rising has = tt
front_below R (x ∷ xs) ys y rising has = (
  each-from (λ z. R x z ≡ Less) (xs ++ ys) (rising_head R x (xs ++ ys) rising) y (Contains-append_right xs ys y has),
  front_below R xs ys y (rising_tail R x (xs ++ ys) rising) has,
)

-- The front of a sorted list is sorted.
pub rising_front : {A : Type 0} (R : A → A → Ordering) (xs ys : List A) → IsStrictlySortedBy R (xs ++ ys) → IsStrictlySortedBy R xs
rising_front R [] ys rising = rising_nil R
rising_front R (x ∷ xs) ys rising =
    rising_cons R x xs (all_front (λ z. R x z ≡ Less) xs ys (rising_head R x (xs ++ ys) rising))
    (rising_front R xs ys (rising_tail R x (xs ++ ys) rising))

module _ {A : Type 0} {R : A → A → Ordering} (o : IsTotalOrder R) where
  -- What is above the last item of a sorted list is above all.
  above_all : (x : A) (xs : List A) (y : A) → IsStrictlySortedBy R (x ∷ xs) → IsAbove R (last_or (Some x) xs) y
      → AllByRecursion (λ z. R z y ≡ Less) (x ∷ xs)
  above_all x [] y rising h = (h, tt)
  above_all x (z ∷ zs) y rising h =
      let rest = above_all z zs y (rising_tail R x (z ∷ zs) rising) h in
      (o.trans x z y (rising_head R x (z ∷ zs) rising).0 rest.0, rest)

  -- The same, if the list may be empty.
  pub last_below : (xs : List A) (y : A) → IsStrictlySortedBy R xs → IsAbove R (last_or None xs) y → AllByRecursion (λ z. R z y ≡ Less) xs
  last_below [] y rising h = tt
  last_below (x ∷ xs) y rising h = above_all x xs y rising h

  -- A sorted list, with a sorted one that is above its last item behind it, is sorted.
  pub rising_joined : (xs ys : List A) → IsStrictlySortedBy R xs → IsStrictlySortedBy R ys
      → ((y : A) → Contains ys y → IsAbove R (last_or None xs) y) → IsStrictlySortedBy R (xs ++ ys)
  rising_joined xs ys p q above =
      rising_append R xs ys p q (each-to (λ x. AllByRecursion (λ y. R x y ≡ Less) ys) xs
      (λ x has. each-to (λ y. R x y ≡ Less) ys
      (λ y there. each-from (λ z. R z y ≡ Less) xs (last_below xs y p (above y there)) x has)))

  -- An item that all of a list are behind is not among these, so what has it and them has them in its rest.
  in_rest : (y : A) (ys xs : List A) → AllByRecursion (λ x. R y x ≡ Less) xs → ((x : A) → Contains xs x → Contains (y ∷ ys) x)
      → (x : A) → Contains xs x → Contains ys x
  in_rest y ys xs below all x has = elim (contains-cases y ys x (all x has)) [
    | inl same ↦ absurd (not_again o y xs below (subst (Contains xs) same has))
    | inr later ↦ later
  ]

  -- A sorted list is no longer than a sorted list that has all of its items.
  pub no_longer : (xs ys : List A) → IsStrictlySortedBy R xs → IsStrictlySortedBy R ys → ((x : A) → Contains xs x → Contains ys x)
      → length xs ≤ length ys
  no_longer [] ys p q all = omega arith
  no_longer (x ∷ xs) [] p q all = absurd (contains-none x (all x (contains-here x xs)))
  no_longer (x ∷ xs) (y ∷ ys) p q all = elim (contains-cases y ys x (all x (contains-here x xs))) [
    | inl same ↦
        let below : AllByRecursion (λ z. R y z ≡ Less) xs = subst (λ w. AllByRecursion (λ z. R w z ≡ Less) xs) same (rising_head R x xs p) in
        let rest = no_longer xs ys (rising_tail R x xs p) (rising_tail R y ys q)
        (in_rest y ys xs below (λ z has. all z (contains-later x xs z has))) in
        omega (arith, rest)
    | inr later ↦
        let first : R y x ≡ Less = each-from (λ z. R y z ≡ Less) ys (rising_head R y ys q) x later in
        let below : AllByRecursion (λ z. R y z ≡ Less) (x ∷ xs) =
        (first, each-to (λ z. R y z ≡ Less) xs (λ z has. o.trans y x z first (each-from (λ w. R x w ≡ Less) xs (rising_head R x xs p) z has))) in
        let rest = no_longer (x ∷ xs) ys p (rising_tail R y ys q) (in_rest y ys (x ∷ xs) below all) in
        omega (arith, rest)
  ]
