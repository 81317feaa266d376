-- Names of domains in a target are ASCII.
use Rattle.std.proofs.Common.{◌≡◌, ℕ, ◌<◌, true, List, [], ◌∷◌, arith}
use Rattle.std.specs.Prelude.{All}
use Rattle.std.specs.List.{list_all}
use Rattle.std.specs.Str.{IsUtf8}
use Rattle.std.proofs.lemmas.Bool.{and_parts}
use Rattle.std.proofs.lemmas.List.Elements.{All-cons, All-nil}
use Rattle.std.proofs.lemmas.Str.{IsUtf8-from_ascii, IsUtf8-nil}
use Rattle.std.proofs.lemmas.Str.Ascii.{IsAscii-from_all}
use Rattle.health_pages.specs.Pages.{is_name, is_name_byte}

-- a byte of a name is ASCII
byte_is_ascii : (b : ℕ) → is_name_byte b ≡ true → b < 128
byte_is_ascii b h = grind arith

-- the bytes of a name are
all_ascii : (bs : List ℕ) → list_all is_name_byte bs ≡ true → All (λ b. b < 128) bs
all_ascii [] h = All-nil (λ b. b < 128)
all_ascii (b ∷ bs) h =
    let parts = and_parts (is_name_byte b) (list_all is_name_byte bs) h in
    All-cons (λ b. b < 128) b bs (byte_is_ascii b parts.0) (all_ascii bs parts.1)

-- so a name is a text
pub name_is_text : (bs : List ℕ) → is_name bs ≡ true → IsUtf8 bs
name_is_text [] h = IsUtf8-nil
name_is_text (b ∷ bs) h = IsUtf8-from_ascii (b ∷ bs) (IsAscii-from_all (b ∷ bs) (all_ascii (b ∷ bs) h))
