-- A set of numbers that is kept as a list, with the place of each number in it
use Rattle.std.specs.Prelude.{◌≡◌, ℕ, ◌+◌, ◌<◌, Bool, List, length, slice_index, nat_lt}
use Rattle.wait_index.specs.Inside.Count.{count_below}

-- A place is an index in the list plus 1, or 0 if the number is not listed.
abbrev pub holds : List ℕ → ℕ → Bool
holds places n = nat_lt 0 (slice_index places n)

pub record IsListing (items places : List ℕ) : Type 0 where
  pub within : (i : ℕ) → i < length items → slice_index items i < length places
  pub listed : (i : ℕ) → i < length items → slice_index places (slice_index items i) ≡ i + 1
  pub placed_within : (n i : ℕ) → slice_index places n ≡ i + 1 → i < length items
  pub placed : (n i : ℕ) → slice_index places n ≡ i + 1 → slice_index items i ≡ n
  pub many : count_below (λ n. holds places n) (length places) ≡ length items
