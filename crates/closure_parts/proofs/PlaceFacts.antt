-- Lists by places
use Rattle.std.proofs.Common.{◌≡◌, ◌≢◌, ℕ, zero, suc, ◌+◌, ◌<◌, ◌⊎◌, inl, inr, List, [], ◌∷◌, ◌++◌, length}
use Rattle.std.proofs.Common.{map, Some, arith, refl, sym, ap, ◌∙◌}
use Rattle.std.specs.Prelude.{Contains, slice_get, AllPairs}
use Rattle.std.proofs.lemmas.Bool.{cases_order}
use Rattle.std.proofs.lemmas.Option.{slice_get_within, same_Some, none-some, slice_get-get_or, get_or_from_slice_get}
use Rattle.closure_core.proofs.ContainsFacts.{mapped}

-- An item keeps its place when a list is appended.
pub slice_get-left : {A : Type 0} (xs ys : List A) (i : ℕ) (x : A) → slice_get xs i ≡ Some x → slice_get (xs ++ ys) i ≡ Some x
slice_get-left [] ys i x e = absurd (omega (arith, slice_get_within [] i x e))
slice_get-left (z ∷ xs) ys zero x e = e
slice_get-left (z ∷ xs) ys (suc i) x e = slice_get-left xs ys i x e

-- In the joined list, an item of the second list is further on by the length of the first.
pub slice_get-right : {A : Type 0} (xs ys : List A) (k : ℕ) → slice_get (xs ++ ys) (length xs + k) ≡ slice_get ys k
slice_get-right [] ys k = let e : 0 + k ≡ k = omega arith in ap (λ n. slice_get ys n) e
slice_get-right (z ∷ xs) ys k =
    let e : suc (length xs) + k ≡ suc (length xs + k) = omega arith in
    ap (λ n. slice_get (z ∷ (xs ++ ys)) n) e ∙ slice_get-right xs ys k

-- the item is in the second of two lists
pub record IsPast {A : Type 0} (xs ys : List A) (i : ℕ) (x : A) : Type 0 where
  pub place : ℕ
  pub is : i ≡ length xs + place
  pub at : slice_get ys place ≡ Some x

-- An item of two lists is in the first or in the second.
pub slice_get-append_cases : {A : Type 0} (xs ys : List A) (i : ℕ) (x : A) → slice_get (xs ++ ys) i ≡ Some x → (slice_get xs i ≡ Some x) ⊎ IsPast xs ys i x
slice_get-append_cases [] ys i x e = inr (record { place = i; is = omega arith; at = e })
slice_get-append_cases (z ∷ xs) ys zero x e = inl e
slice_get-append_cases (z ∷ xs) ys (suc i) x e =
    elim (slice_get-append_cases xs ys i x e) [
      | inl a ↦ inl a
      | inr a ↦ inr (record { place = a.place; is = omega (arith, a.is); at = a.at })
    ]

-- The image of an item is at its place.
pub slice_get-map_at : {A B : Type 0} (f : A → B) (xs : List A) (i : ℕ) (x : A) → slice_get xs i ≡ Some x → slice_get (map f xs) i ≡ Some (f x)
slice_get-map_at f [] i x e = absurd (omega (arith, slice_get_within [] i x e))
slice_get-map_at {B = B} f (z ∷ xs) zero x e = ap (λ y. Some (f y)) (same_Some z x e)
slice_get-map_at f (z ∷ xs) (suc i) x e = slice_get-map_at f xs i x e

-- What is in a mapped list is the image of what is there in the list.
pub slice_get-map_cases : {A B : Type 0} (f : A → B) (xs : List A) (i : ℕ) (y : B) → slice_get (map f xs) i ≡ Some y
    → (x : A) × (slice_get xs i ≡ Some x) × (f x ≡ y)
slice_get-map_cases f [] i y e = absurd (omega (arith, slice_get_within [] i y e))
slice_get-map_cases f (z ∷ xs) zero y e = (z, refl, same_Some (f z) y e)
slice_get-map_cases f (z ∷ xs) (suc i) y e = slice_get-map_cases f xs i y e

-- What a list contains is at some place.
pub Contains-slice_get : {A : Type 0} (xs : List A) (x : A) → Contains xs x → (i : ℕ) × (slice_get xs i ≡ Some x)
Contains-slice_get xs x c = (c.0, slice_get-get_or xs c.0 x c.1 ∙ ap (λ y. Some y) c.2)

-- What is at a place is contained.
pub slice_get-Contains : {A : Type 0} (xs : List A) (i : ℕ) (x : A) → slice_get xs i ≡ Some x → Contains xs x
slice_get-Contains xs i x e = (i, slice_get_within xs i x e, get_or_from_slice_get xs i x x e)

-- different items are at different places
pub one_place : {A : Type 0} (xs : List A) → AllPairs ◌≢◌ xs → (i j : ℕ) (x : A) → slice_get xs i ≡ Some x → slice_get xs j ≡ Some x → i ≡ j
one_place xs once i j x a b =
    elim (cases_order i j) [
      | inl e ↦ e
      | inr d ↦
          elim d [
            | inl l ↦ absurd (once i j x l (slice_get_within xs j x b) (get_or_from_slice_get xs i x x a ∙ sym (get_or_from_slice_get xs j x x b)))
            | inr l ↦ absurd (once j i x l (slice_get_within xs i x a) (get_or_from_slice_get xs j x x b ∙ sym (get_or_from_slice_get xs i x x a)))
          ]
    ]

-- The new label is at the end.
pub slice_get-push : {A : Type 0} (xs : List A) (x : A) → slice_get (xs ++ x ∷ []) (length xs) ≡ Some x
slice_get-push [] x = refl
slice_get-push (z ∷ xs) x = slice_get-push xs x

-- What is among labels with one more was there or is the new one.
pub slice_get-push_cases : {A : Type 0} (xs : List A) (x : A) (i : ℕ) (y : A) → slice_get (xs ++ x ∷ []) i ≡ Some y
    → ((i < length xs) × (slice_get xs i ≡ Some y)) ⊎ ((i ≡ length xs) × (x ≡ y))
slice_get-push_cases [] x zero y e = inr (refl, same_Some x y e)
slice_get-push_cases [] x (suc i) y e = absurd (none-some y e)
slice_get-push_cases (z ∷ xs) x zero y e = inl (omega arith, e)
slice_get-push_cases (z ∷ xs) x (suc i) y e =
    elim (slice_get-push_cases xs x i y e) [
      | inl a ↦ inl (omega (arith, a.0), a.1)
      | inr a ↦ inr (ap suc a.0, a.1)
    ]

-- Each item of a mapped list is the image of one of the list.
pub Contains-from_map : {X Y : Type 0} (f : X → Y) (xs : List X) (y : Y) → Contains (map f xs) y
    → (x : X) × Contains xs x × (f x ≡ y)
Contains-from_map f xs y c = let h = mapped f xs y c in (h.item, h.has, h.is)
