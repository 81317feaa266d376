-- What the searches of the order itself answer
use Rattle.std.specs.Prelude.{◌≡◌, ◌≢◌, ℕ, List, slice_index, slice_get, Option, Some, MatchOption}
use Rattle.std.specs.Prelude.{Result, MatchResult}
use Rattle.std.specs.declared.cmp.Ordering.{Ordering}
use Rattle.std.specs.declared.cmp.Ordering.TheVariants.{Less, Equal, Greater}
use Rattle.sorted_order.specs.Sought.{IsFound, IsMissing}

-- The number is the first in its place.
pub record IsFirstFound (compared : ℕ → Ordering) (numbers : List ℕ) (number : ℕ) : Type 0 where
  pub place : ℕ
  pub found : IsFound compared numbers place
  pub numbered : slice_index numbers place ≡ number

-- what a search answers among numbers: the first in its place, or the place that it would have
abbrev pub FindsFirst : (ℕ → Ordering) → List ℕ → Result ℕ ℕ → Type 0
FindsFirst compared numbers result =
    MatchResult result (IsFirstFound compared numbers) (IsMissing compared numbers)

-- what a look at one place answers: the number there, if it is in its place
abbrev pub FindsAt : (ℕ → Ordering) → List ℕ → ℕ → Option ℕ → Type 0
FindsAt compared numbers place result =
    MatchOption result
    ((number : ℕ) → slice_get numbers place ≡ Some number → compared number ≢ Equal)
    (λ number. (slice_get numbers place ≡ Some number) × (compared number ≡ Equal))

-- how it compares to the place just past what is sought
abbrev pub past : Ordering → Ordering
past Less = Less
past Equal = Less
past Greater = Greater
