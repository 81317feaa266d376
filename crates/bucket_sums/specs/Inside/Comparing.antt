-- How the lines of sums are compared, one by one.
use Rattle.std.specs.Prelude.{◌≡◌, ℕ, Bool, true, false, List, [], ◌∷◌, ◌++◌, length}
use Rattle.std.specs.Prelude.{slice_index_or}
use Rattle.bucket_sums.specs.Lines.{IsSumLine, differs}
use Rattle.bucket_sums.specs.declared.sum_lines.SumLines.{SumLines}

-- a mark for each line that came
abbrev pub marks_so_far : SumLines → List Bool
marks_so_far lines = lines.marks.items

abbrev pub own_sums : SumLines → List (List ℕ)
own_sums lines = lines.own

-- The line is that of a sum, and there is one mark more.
pub record IsCompared (old : SumLines) (line : List ℕ) (new : SumLines) : Type 0 where
  pub is : IsSumLine line
  pub own : own_sums new ≡ own_sums old
  pub marks : marks_so_far new ≡ marks_so_far old
      ++ differs line (slice_index_or (own_sums old) (length (marks_so_far old)) []) ∷ []

-- what is done with the next line
abbrev pub ComparesLine : SumLines → List ℕ → SumLines → Bool → Type 0
ComparesLine old line new true = IsCompared old line new
ComparesLine old line new false = (IsSumLine line → ⊥) × (new ≡ old)
