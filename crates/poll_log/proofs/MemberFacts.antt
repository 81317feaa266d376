-- Members of a list that begins with an item, and orders that put nothing before itself.
use Rattle.std.proofs.Common.{◌≡◌, ◌⊎◌, inl, inr, List, [], ◌∷◌, Less, refl, arith}
use Rattle.std.specs.declared.cmp.Ordering.{Ordering}
use Rattle.std.specs.Cmp.{IsTotalOrder, tied_itself}
use Rattle.std.specs.List.{Contains}
use Rattle.std.proofs.lemmas.List.Elements.{Contains-append_right, Contains-append_cases, Contains-push_cases}

-- the first item is a member
pub contains_first : {T : Type 0} (x : T) (xs : List T) → Contains (x ∷ xs) x
contains_first x xs = (0, omega arith, refl)

-- a member of the rest is a member
pub contains_later : {T : Type 0} (x : T) (xs : List T) (y : T) → Contains xs y → Contains (x ∷ xs) y
contains_later x xs y has = Contains-append_right (x ∷ []) xs y has

-- the empty list has no member
contains_none : {T : Type 0} (x : T) → Contains [] x → ⊥
contains_none x has = omega (arith, has.1)

-- a member is the first item, or one of the rest
pub contains_cases : {T : Type 0} (x : T) (xs : List T) (y : T) → Contains (x ∷ xs) y → (x ≡ y) ⊎ Contains xs y
contains_cases x xs y has = elim (Contains-append_cases (x ∷ []) xs y has) [
  | inl here ↦ elim (Contains-push_cases [] x y here) [
    | inl none ↦ absurd (contains_none y none)
    | inr same ↦ inl same
  ]
  | inr later ↦ inr later
]

-- no item is below itself
pub not_below_itself : {A : Type 0} {cmp : A → A → Ordering} → IsTotalOrder cmp → (x : A) → cmp x x ≡ Less → ⊥
not_below_itself {A} {cmp} o x h = let same = tied_itself o x in cc
