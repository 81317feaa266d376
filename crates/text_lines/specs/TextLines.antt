-- Texts as lists of lines, each without its line feed
use Rattle.std.specs.Prelude.{ℕ, List, [], ◌∷◌, ◌++◌, Bool, not, filter, flat_map}
use Rattle.std.specs.Prelude.{codes, decimal, Option, Some, None}
use Rattle.std.specs.Str.{bytes_eq}
use Rattle.std.specs.Io.KnownBytes.{Appends}
use Rattle.std.specs.List.{list_any}
use Rattle.byte_lines.specs.Device.{AppendsBeginning}

abbrev pub number_or_none : Option ℕ → List ℕ
number_or_none None = codes "none"
number_or_none (Some n) = decimal n

abbrev pub line_with_feed : List ℕ → List ℕ
line_with_feed line = line ++ 10 ∷ []

abbrev pub joined_lines : List (List ℕ) → List ℕ
joined_lines lines = flat_map line_with_feed lines

abbrev pub has_line : List (List ℕ) → List ℕ → Bool
has_line lines wanted = list_any (λ line. bytes_eq line wanted) lines

-- the lines of the one that the other lacks, in their order
abbrev pub lines_lacking : List (List ℕ) → List (List ℕ) → List (List ℕ)
lines_lacking one other = filter (λ line. not (has_line other line)) one

abbrev pub marked_line : List ℕ → List ℕ → List ℕ
marked_line mark line = mark ++ (line ++ 10 ∷ [])

-- what only the one has, and then what only the other has
abbrev pub difference_text : List (List ℕ) → List (List ℕ) → List ℕ
difference_text one other = flat_map (marked_line (codes "- ")) (lines_lacking one other)
    ++ flat_map (marked_line (codes "+ ")) (lines_lacking other one)

-- ---- what is written

-- exactly such a text was written
pub record WritesSome (Is : List ℕ → Type 0) (old new : Option (List ℕ)) : Type 0 where
  pub text : List ℕ
  pub is : Is text
  pub written : Appends old new text

-- a beginning of such a text was written
pub record BeginsSome (Is : List ℕ → Type 0) (old new : Option (List ℕ)) : Type 0 where
  pub text : List ℕ
  pub is : Is text
  pub begun : AppendsBeginning old new text
