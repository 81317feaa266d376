-- What a list contains
use Rattle.std.proofs.Common.{◌≡◌, ◌⊎◌, inl, inr, List, [], ◌∷◌, map, refl, subst, arith}
use Rattle.std.specs.List.{Contains}
use Rattle.std.proofs.lemmas.List.Elements.{Contains-append_right, Contains-append_cases, Contains-push_cases}

-- A list contains its first item.
pub contains_first : {T : Type 0} (x : T) (xs : List T) → Contains (x ∷ xs) x
contains_first x xs = (0, omega arith, refl)

-- What the rest of a list contains, the list contains.
pub contains_later : {T : Type 0} (x : T) (xs : List T) (y : T) → Contains xs y → Contains (x ∷ xs) y
contains_later x xs y has = Contains-append_right (x ∷ []) xs y has

-- The empty list contains nothing.
pub contains_none : {T : Type 0} (x : T) → Contains [] x → ⊥
contains_none x has = omega (arith, has.1)

-- What a list contains is its first item or is in the rest: so proofs go down a list.
pub contains_cases : {T : Type 0} (x : T) (xs : List T) (y : T) → Contains (x ∷ xs) y → (x ≡ y) ⊎ Contains xs y
contains_cases x xs y has = elim (Contains-append_cases (x ∷ []) xs y has) [
  | inl here ↦ elim (Contains-push_cases [] x y here) [
    | inl none ↦ absurd (contains_none y none)
    | inr same ↦ inl same
  ]
  | inr later ↦ inr later
]

-- ---- what a function makes of a list

-- The image of an item is among the images of all items.
pub contains_map : {X Y : Type 0} (f : X → Y) (xs : List X) (x : X) → Contains xs x → Contains (map f xs) (f x)
contains_map f [] x has = absurd (contains_none x has)
contains_map f (h ∷ t) x has = elim (contains_cases h t x has) [
  | inl e ↦ subst (λ y. Contains (map f (h ∷ t)) (f y)) e (contains_first (f h) (map f t))
  | inr later ↦ contains_later (f h) (map f t) (f x) (contains_map f t x later)
]

-- the item from which an item of a mapped list is made
pub record IsMapped {X Y : Type 0} (f : X → Y) (xs : List X) (y : Y) : Type 0 where
  pub item : X
  pub has : Contains xs item
  pub is : f item ≡ y

-- Each item of a mapped list is the image of an item of the list.
pub mapped : {X Y : Type 0} (f : X → Y) (xs : List X) (y : Y) → Contains (map f xs) y → IsMapped f xs y
mapped f [] y has = absurd (contains_none y has)
mapped f (h ∷ t) y has = elim (contains_cases (f h) (map f t) y has) [
  | inl e ↦ record { item = h; has = contains_first h t; is = e }
  | inr later ↦
      let rest = mapped f t y later in
      record { item = rest.item; has = contains_later h t rest.item rest.has; is = rest.is }
]
