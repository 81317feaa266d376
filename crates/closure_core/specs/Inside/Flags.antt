-- Which of the different documents are accepted, by flags
use Rattle.std.specs.Prelude.{◌≡◌, ℕ, Bool, true, List, length, count_by, Contains, slice_get, Some}
use Rattle.receipt_core.specs.Receipt.{Pair}
use Rattle.receipt_core.specs.Acceptance.{Meaning, IsMember}
use Rattle.closure_core.specs.Inside.Nodes.{is_raised}

-- how many flags are raised
abbrev pub raised_count : List Bool → ℕ
raised_count flags = count_by (λ flag. flag) flags

-- Each accepted document has one number among these, whose flag is raised, and each raised flag is
-- that of an accepted document.
pub record ReportsMembers (m : Meaning) (pairs : List Pair) (numbers : List ℕ)
    (flags : List Bool) : Type 0 where
  pub size : length flags ≡ length pairs
  pub sound : (number : ℕ) (p : Pair) → is_raised flags number ≡ true
      → slice_get pairs number ≡ Some p → IsMember m p
  pub listed : (number : ℕ) → is_raised flags number ≡ true → Contains numbers number
  pub all : (p : Pair) → IsMember m p
      → (number : ℕ) × (is_raised flags number ≡ true) × (slice_get pairs number ≡ Some p)
  pub once : (one other : ℕ) (p : Pair) → Contains numbers one → Contains numbers other
      → slice_get pairs one ≡ Some p → slice_get pairs other ≡ Some p → one ≡ other
