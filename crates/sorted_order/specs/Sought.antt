-- How the items of a list compare to what is sought: `Less` before it, `Equal` in its place,
-- `Greater` after it
use Rattle.std.specs.Prelude.{◌≡◌, ◌≢◌, ℕ, ◌<◌, ◌≤◌, Bool, true, false, List, length, Result}
use Rattle.std.specs.Prelude.{MatchResult}
use Rattle.std.specs.declared.cmp.Ordering.{Ordering}
use Rattle.std.specs.declared.cmp.Ordering.TheVariants.{Less, Equal, Greater}
use Rattle.std.specs.List.{AllWithin, HoldsAt}
use Rattle.std.specs.List.Sorted.{IsNonDecreasingBy}
use Rattle.std.specs.Ordering.{ordering_index}

-- First come the items before it, then those in its place, then those after it.
pub record IsRising {X : Type 0} (compared : X → Ordering) (items : List X) : Type 0 where
  pub rising : IsNonDecreasingBy (λ x. ordering_index (compared x)) items

-- The items up to the place come before it, and no other does.
pub record IsGap {X : Type 0} (compared : X → Ordering) (items : List X) (place : ℕ) : Type 0 where
  pub within : place ≤ length items
  pub before : AllWithin (λ x. compared x ≡ Less) items 0 place
  pub after : AllWithin (λ x. compared x ≢ Less) items place (length items)

-- The first item in its place is at this place.
pub record IsFound {X : Type 0} (compared : X → Ordering) (items : List X)
    (place : ℕ) : Type 0 where
  pub within : place < length items
  pub before : AllWithin (λ x. compared x ≡ Less) items 0 place
  pub here : HoldsAt (λ x. compared x ≡ Equal) items place

-- No item is in its place: those up to this place come before it, and the others after it.
pub record IsMissing {X : Type 0} (compared : X → Ordering) (items : List X)
    (place : ℕ) : Type 0 where
  pub within : place ≤ length items
  pub before : AllWithin (λ x. compared x ≡ Less) items 0 place
  pub after : AllWithin (λ x. compared x ≡ Greater) items place (length items)

-- what a search answers: the place that it has, or the place that it would have
abbrev pub Finds : {X : Type 0} → (X → Ordering) → List X → Result ℕ ℕ → Type 0
Finds compared items result = MatchResult result (IsFound compared items) (IsMissing compared items)

-- whether the item is in its place
abbrev pub is_equal : Ordering → Bool
is_equal Less = false
is_equal Equal = true
is_equal Greater = false
