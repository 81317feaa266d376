-- The lower-case digits of a key id are decoded to it
use Rattle.std.proofs.Common.{◌≡◌, ℕ, List, length, refl, sym, ap, subst, ◌∙◌, Ok, Err, Result, arith}
use Rattle.std.specs.Prelude.{MatchResult}
use Rattle.hex.specs.declared.error.FromHexError.{FromHexError}
use Rattle.hex.specs.Hex.{IsBytes, decode_pairs, decode_sized, encode_lower}
use Rattle.hex.proofs.HexLemmas.{length-encode_with, decode_pairs-encode_with, IsDigits-lower_digits}
use Rattle.hex.specs.Hex.{lower_digits}

-- a text of 64 digits decodes by pairs into 32 bytes
by_pairs : (text : List ℕ) → length text ≡ 64 → decode_sized text 32 ≡ decode_pairs 0 text
by_pairs text h = rw h refl

sized : (bytes : List ℕ) → length bytes ≡ 32 → length (encode_lower bytes) ≡ 64
sized bytes size = length-encode_with lower_digits bytes ∙ omega (arith, size)

-- Decoding such digits into 32 bytes returns `Ok`, and leaves the id there.
pub decoded_key : (text out bytes : List ℕ) (r : Result (Unit {0}) FromHexError)
    → MatchResult (decode_sized text 32) (λ found. (r ≡ Ok tt) × (out ≡ found)) (λ e. r ≡ Err e)
    → length bytes ≡ 32 → IsBytes bytes → encode_lower bytes ≡ text → (r ≡ Ok tt) × (out ≡ bytes)
decoded_key text out bytes r h size octets e =
    let stated : decode_sized text 32 ≡ Ok bytes =
    ap (λ t. decode_sized t 32) (sym e) ∙ by_pairs (encode_lower bytes) (sized bytes size)
    ∙ decode_pairs-encode_with lower_digits IsDigits-lower_digits 0 bytes octets in
    subst (λ x. MatchResult x (λ found. (r ≡ Ok tt) × (out ≡ found)) (λ e. r ≡ Err e)) stated h
