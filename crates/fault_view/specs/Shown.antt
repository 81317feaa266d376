-- Bytes that a stranger chose, as they are shown on a terminal.
use Rattle.std.specs.Prelude.{ℕ, ◌+◌, ◌/◌, ◌%◌, ◌&&◌, ◌==◌, not, nat_le, nat_lt, List, [], ◌∷◌}
use Rattle.std.specs.Prelude.{◌++◌, length, slice_range, flat_map, Bool, if◌then◌else◌}

-- a character of ASCII that prints: from the space to the tilde
abbrev pub is_ascii_print : ℕ → Bool
is_ascii_print b = nat_le 32 b && nat_le b 126

-- it is shown as itself: it prints, and is neither a quotation mark nor a backslash
abbrev pub is_plain : ℕ → Bool
is_plain b = is_ascii_print b && not (b == 34) && not (b == 92)

-- a hexadecimal digit, in lower case
abbrev pub hex_digit : ℕ → ℕ
hex_digit n = if nat_lt n 10 then 48 + n else 87 + n

-- the byte itself, or a backslash, an x and two digits
abbrev pub shown_byte : ℕ → List ℕ
shown_byte b = if is_plain b then b ∷ []
    else 92 ∷ 120 ∷ hex_digit (b / 16) ∷ hex_digit (b % 16) ∷ []

abbrev pub shown : List ℕ → List ℕ
shown text = flat_map shown_byte text

-- how many bytes of a text are shown
abbrev pub shown_limit : ℕ
shown_limit = 64

-- the beginning of the text
abbrev pub front : List ℕ → List ℕ
front text = if nat_le (length text) shown_limit then text else slice_range text 0 shown_limit

-- a quotation mark, and two full stops before it if not all of the text was shown
abbrev pub ending : List ℕ → List ℕ
ending text = if nat_le (length text) shown_limit then 34 ∷ [] else 46 ∷ 46 ∷ 34 ∷ []

-- the beginning of the text between quotation marks
abbrev pub quoted_text : List ℕ → List ℕ
quoted_text text = 34 ∷ [] ++ (shown (front text) ++ ending text)
