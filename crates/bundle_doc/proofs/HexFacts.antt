-- Hexadecimal digits are plain texts.
use Rattle.std.proofs.Common.{◌≡◌, ℕ, suc, ◌<◌, ◌/◌, ◌%◌, true, List, [], ◌∷◌, get_or, refl, arith}
use Rattle.std.specs.List.{All}
use Rattle.std.proofs.lemmas.Bool.Decides.{nat_tests}
use Rattle.std.proofs.lemmas.List.Elements.{All-nil, All-cons, All-get_or, All-weaker, All-from_recursion}
use Rattle.std.proofs.lemmas.Str.{IsUtf8-from_ascii}
use Rattle.std.proofs.lemmas.Str.Ascii.{IsAscii-from_all}
use Rattle.hex.specs.Hex.{IsBytes, encode_with, encode_lower, lower_digits}
use Rattle.spiffe_name.specs.Bytes.{is_printable, is_quotable, IsPlainText}

-- a byte that a plain text may have
abbrev IsPlainByte : ℕ → Type 0
IsPlainByte b = (is_printable b ≡ true) × (is_quotable b ≡ true)

-- a plain byte is ASCII
small : (b : ℕ) → IsPlainByte b → b < 128
small b h = let printable = h.0 in grind (arith, nat_tests)

-- each hexadecimal digit of the table is a plain byte
plain_digits : All IsPlainByte lower_digits
plain_digits = All-from_recursion IsPlainByte lower_digits (
  (refl, refl),
  (
    (refl, refl),
    (
      (refl, refl),
      (
        (refl, refl),
        (
          (refl, refl),
          (
            (refl, refl),
            (
              (refl, refl),
              (
                (refl, refl),
                (
                  (refl, refl),
                  (
                    (refl, refl),
                    ((refl, refl), ((refl, refl), ((refl, refl), ((refl, refl), ((refl, refl), ((refl, refl), tt)))))),
                  ),
                ),
              ),
            ),
          ),
        ),
      ),
    ),
  ),
)

-- the digit of each value below 16 is a plain byte
plain_digit : (k : ℕ) → k < 16 → IsPlainByte (get_or lower_digits k 0)
plain_digit k h = All-get_or IsPlainByte lower_digits k 0 h plain_digits

-- the hexadecimal text of bytes has plain bytes only
plain_hex : (bytes : List ℕ) → IsBytes bytes → All IsPlainByte (encode_with lower_digits bytes)
unfolding encode_with
plain_hex [] h = All-nil IsPlainByte
plain_hex (b ∷ rest) h =
    let byte : b < 256 = h 0 in
    let high = get_or lower_digits (b / 16) 0 in
    let low = get_or lower_digits (b % 16) 0 in
    let others = encode_with lower_digits rest in
    All-cons IsPlainByte high (low ∷ others) (plain_digit (b / 16) (omega arith))
    (All-cons IsPlainByte low others (plain_digit (b % 16) (omega arith)) (plain_hex rest (λ i. h (suc i))))

-- the hexadecimal text of bytes is a plain text, as `laws::hex_texts` says
pub IsPlainText-hex : (bytes : List ℕ) → IsBytes bytes → IsPlainText (encode_lower bytes)
IsPlainText-hex bytes h =
    let plain = plain_hex bytes h in
    record {
      printable = All-weaker IsPlainByte (λ b. is_printable b ≡ true) (λ b p. p.0) (encode_lower bytes) plain;
      unescaped = All-weaker IsPlainByte (λ b. is_quotable b ≡ true) (λ b p. p.1) (encode_lower bytes) plain;
      utf8 = IsUtf8-from_ascii (encode_lower bytes)
          (IsAscii-from_all (encode_lower bytes)
          (All-weaker IsPlainByte (λ b. b < 128) small (encode_lower bytes) plain));
    }
