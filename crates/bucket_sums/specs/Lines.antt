-- The lines of sums and of marks.
use Rattle.std.specs.Prelude.{◌≡◌, ℕ, Bool, true, false, not, ◌&&◌, ◌||◌, nat_le, List, [], ◌∷◌}
use Rattle.std.specs.Prelude.{length, map, flat_map, bytes_eq, ◌++◌}
use Rattle.std.specs.List.{AllPass}
use Rattle.hex.specs.Hex.{encode_lower}

-- ---- sums

abbrev pub is_sum_digit : ℕ → Bool
is_sum_digit b = (nat_le 48 b && nat_le b 57) || (nat_le 97 b && nat_le b 102)

-- It is the line of a sum, without its line feed: 64 lower-case hexadecimal digits.
pub record IsSumLine (text : List ℕ) : Type 0 where
  pub size : length text ≡ 64
  pub each : AllPass is_sum_digit text

-- ---- marks

-- how many parts have a sum: the records, and each of 256 buckets
abbrev pub part_count : ℕ
part_count = 257

-- `1` marks a part that differs, and `0` one that does not
abbrev pub mark_of : Bool → ℕ
mark_of true = 49
mark_of false = 48

abbrev pub is_part_mark : ℕ → Bool
is_part_mark b = nat_le 48 b && nat_le b 49

-- the marks as a line, without its line feed
abbrev pub marks_line : List Bool → List ℕ
marks_line marks = map mark_of marks

-- The text is the line of the marks of all parts.
pub record IsMarksLine (text : List ℕ) (marks : List Bool) : Type 0 where
  pub all : length marks ≡ part_count
  pub spelt : text ≡ marks_line marks

-- ---- what differs

-- the line is not that of the sum
abbrev pub differs : List ℕ → List ℕ → Bool
differs line sum = not (bytes_eq line (encode_lower sum))

-- which lines are not those of the sums in their places
abbrev pub differences : List (List ℕ) → List (List ℕ) → List Bool
differences [] sums = []
differences (line ∷ lines) [] = []
differences (line ∷ lines) (sum ∷ sums) = differs line sum ∷ differences lines sums

-- ---- the lines of sums

-- the line of a sum with its line feed
abbrev pub sum_line : List ℕ → List ℕ
sum_line sum = encode_lower sum ++ (10 ∷ [])

-- the lines of sums
abbrev pub sums_text : List (List ℕ) → List ℕ
sums_text sums = flat_map sum_line sums
