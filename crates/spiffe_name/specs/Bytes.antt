-- Bytes of names, and the place of the first wrong one in a text.
use Rattle.std.specs.Prelude.{◌≡◌, ℕ, ◌<◌, Bool, false, ◌&&◌, ◌||◌, ◌==◌, nat_le, nat_lt, not, List}
use Rattle.std.specs.Prelude.{[], ◌∷◌, ◌++◌, length, take, slice_index}
use Rattle.std.specs.List.{AllPass}
use Rattle.std.specs.Str.{IsUtf8}

-- a to z
abbrev pub is_lowercase : ℕ → Bool
is_lowercase b = nat_le 97 b && nat_le b 122

-- A to Z
abbrev pub is_uppercase : ℕ → Bool
is_uppercase b = nat_le 65 b && nat_le b 90

-- 0 to 9
abbrev pub is_digit : ℕ → Bool
is_digit b = nat_le 48 b && nat_le b 57

-- full stop, hyphen, low line
abbrev pub is_mark : ℕ → Bool
is_mark b = (b == 46) || (b == 45) || (b == 95)

-- SPIFFE-ID, section 2.1: what a trust domain name has
abbrev pub is_domain_byte : ℕ → Bool
is_domain_byte b = is_lowercase b || is_digit b || is_mark b

-- SPIFFE-ID, section 2.2: what a segment of a path has
abbrev pub is_segment_byte : ℕ → Bool
is_segment_byte b = is_lowercase b || is_uppercase b || is_digit b || is_mark b

-- The first byte of the text that fails the test is here.
pub record FirstFails (test : ℕ → Bool) (text : List ℕ) (place : ℕ) : Type 0 where
  pub within : place < length text
  pub before : AllPass test (take place text)
  pub fails : test (slice_index text place) ≡ false

abbrev pub is_not_slash : ℕ → Bool
is_not_slash b = not (b == 47)

abbrev pub EmptyOrSlash : List ℕ → Type 0
EmptyOrSlash [] = Unit {0}
EmptyOrSlash (b ∷ bytes) = b ≡ 47

-- front is the text up to its first slash or its end, and rest is what follows.
pub record SplitsAtSlash (text front rest : List ℕ) : Type 0 where
  pub whole : text ≡ front ++ rest
  pub no_slash : AllPass is_not_slash front
  pub slash : EmptyOrSlash rest

-- the printable bytes of ASCII, without the space
abbrev pub is_printable : ℕ → Bool
is_printable b = nat_le 33 b && nat_le b 126

-- no quotation mark, no backslash and no control character
abbrev pub is_quotable : ℕ → Bool
is_quotable b = not ((b == 34) || (b == 92) || nat_lt b 32)

-- A text that can be put between quotation marks without an escape, as in a JSON string (RFC 8259,
-- section 7).
pub record IsPlainText (text : List ℕ) : Type 0 where
  pub printable : AllPass is_printable text
  pub unescaped : AllPass is_quotable text
  pub utf8 : IsUtf8 text
