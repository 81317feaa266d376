-- The forms of an authority's members.
use Rattle.std.specs.Prelude.{◌≢◌, ℕ, ◌%◌, ◌<◌, ◌&&◌, ◌||◌, ◌==◌, nat_le, List, [], length, Bool}
use Rattle.std.specs.Prelude.{Option, Some, None}
use Rattle.std.specs.List.{AllPass}
use Rattle.std.specs.Str.{IsUtf8}
use Rattle.base64.specs.GeneralPurpose.{IsBytes}

-- what was found has the property, and if nothing was found nothing has it
abbrev pub FindsMember : {X : Type 0} → Option X → (X → Type 0) → Type 0
FindsMember None P = (x : _) → P x → ⊥
FindsMember (Some x) P = P x

-- a symbol of the URL and filename safe alphabet (RFC 4648, section 5): A-Z a-z 0-9 - _
abbrev pub is_url_symbol : ℕ → Bool
is_url_symbol b = (nat_le 65 b && nat_le b 90) || (nat_le 97 b && nat_le b 122)
    || (nat_le 48 b && nat_le b 57) || (b == 45) || (b == 95)

-- the text of a number or of octets without padding (RFC 7515, section 2): no encoding leaves one
-- symbol over
pub record IsUrlText (text : List ℕ) : Type 0 where
  pub some : text ≢ []
  pub symbols : AllPass is_url_symbol text
  pub whole : length text % 4 ≢ 1

-- a text that says something
pub record IsNonEmptyText (text : List ℕ) : Type 0 where
  pub some : text ≢ []
  pub utf8 : IsUtf8 text

-- at least one byte, and each below 256
pub record IsCertificate (der : List ℕ) : Type 0 where
  pub some : 0 < length der
  pub bytes : IsBytes der
