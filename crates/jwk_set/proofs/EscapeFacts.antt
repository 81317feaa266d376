-- What is written in a JSON string without an escape.
use Rattle.std.proofs.Common.{◌≡◌, ℕ, suc, ◌⊎◌, ◌<◌, ◌≤◌, ◌/◌, ◌%◌, ◌*◌, ◌+◌, ◌==◌, ◌&&◌, ◌||◌, nat_le, true, List, []}
use Rattle.std.proofs.Common.{◌∷◌, ◌++◌, slice_index, refl, ap₂, inl, inr, get_or, arith}
use Rattle.std.specs.List.{AllPass}
use Rattle.std.proofs.lemmas.Bool.{and_parts, or_cases, or_parts, not-true, eqb-true, eqb-false, leb-true, ltb-false, ne_eqb, le-ltb}
use Rattle.std.proofs.lemmas.List.Elements.{All-append, All-cons, All-head, All-nil, All-replicate, All-tail}
use Rattle.std.proofs.lemmas.List.Sums.{AllPass-from_list_all}
use Rattle.base64.specs.Engines.{standard}
use Rattle.base64.specs.GeneralPurpose.{IsBytes, encode_of, engine_symbols}
use Rattle.base64.specs.Rfc4648.{encode_symbols}
use Rattle.json.specs.Print.{escape, escape_byte}
use Rattle.json.proofs.Printed.Strings.{escape_byte_plain}
use Rattle.jwk_set.specs.Forms.{IsCertificate, IsUrlText, is_url_symbol}
use Rattle.jwk_set.specs.Json.{is_unescaped}

-- a byte that needs no escape is written as itself
byte_itself : (b : ℕ) → is_unescaped b ≡ true → escape_byte b ≡ b ∷ []
byte_itself b h =
    let none = or_parts _ _ (not-true _ h) in
    let marks = or_parts (b == 34) _ none.0 in
    escape_byte_plain b (eqb-false b 34 marks.0) (eqb-false b 92 marks.1) (ltb-false b 32 none.1)

-- a text of such bytes is its own JSON string, as `laws::plain_texts` says
pub escape_itself : (text : List ℕ) → AllPass is_unescaped text → escape text ≡ text
escape_itself [] h = refl
escape_itself (b ∷ text) h =
    ap₂ (λ (front rest : List ℕ). front ++ rest) (byte_itself b (All-head (λ x. is_unescaped x ≡ true) b text h))
    (escape_itself text (All-tail (λ x. is_unescaped x ≡ true) b text h))

-- ---- texts in base64url

-- a byte that is not one of those that need an escape
unescaped : (b : ℕ) → 35 ≤ b → (b ≡ 92 → ⊥) → is_unescaped b ≡ true
unescaped b low other = rw (ne_eqb b 34 (λ e. omega arith), ne_eqb b 92 other, le-ltb b 32 (omega arith))

within : (b m n : ℕ) → (nat_le m b && nat_le b n) ≡ true → (m ≤ b) × (b ≤ n)
within b m n h =
    let both = and_parts (nat_le m b) (nat_le b n) h in
    (leb-true m b both.0, leb-true b n both.1)

unescaped_within : (b m n : ℕ) → 35 ≤ m → (m ≤ 92 → n < 92) → (nat_le m b && nat_le b n) ≡ true → is_unescaped b ≡ true
unescaped_within b m n low apart h =
    let range = within b m n h in
    unescaped b (omega arith) (λ e. omega (arith, apart (omega arith)))

-- no symbol of base64url needs an escape
url_symbol_itself : (b : ℕ) → is_url_symbol b ≡ true → is_unescaped b ≡ true
url_symbol_itself b h = last (or_cases _ (b == 95) h)
  where
    letters : ((nat_le 65 b && nat_le b 90) ≡ true) ⊎ ((nat_le 97 b && nat_le b 122) ≡ true) → is_unescaped b ≡ true
    letters (inl upper) = unescaped_within b 65 90 (omega arith) (λ l. omega arith) upper
    letters (inr lower) = unescaped_within b 97 122 (omega arith) (λ l. omega arith) lower

    alphanumeric : (((nat_le 65 b && nat_le b 90) || (nat_le 97 b && nat_le b 122)) ≡ true) ⊎ ((nat_le 48 b && nat_le b 57) ≡ true) → is_unescaped b ≡ true
    alphanumeric (inl letter) = letters (or_cases _ _ letter)
    alphanumeric (inr digit) = unescaped_within b 48 57 (omega arith) (λ l. omega arith) digit

    hyphen : ((((nat_le 65 b && nat_le b 90) || (nat_le 97 b && nat_le b 122)) || (nat_le 48 b && nat_le b 57)) ≡ true) ⊎ ((b == 45) ≡ true)
        → is_unescaped b ≡ true
    hyphen (inl other) = alphanumeric (or_cases _ _ other)
    hyphen (inr is) = let same = eqb-true b 45 is in unescaped b (omega arith) (λ e. omega arith)

    last : (((((nat_le 65 b && nat_le b 90) || (nat_le 97 b && nat_le b 122)) || (nat_le 48 b && nat_le b 57)) || (b == 45)) ≡ true) ⊎ ((b == 95) ≡ true)
        → is_unescaped b ≡ true
    last (inl other) = hyphen (or_cases _ _ other)
    last (inr is) = let same = eqb-true b 95 is in unescaped b (omega arith) (λ e. omega arith)

pub escape_url : (text : List ℕ) → IsUrlText text → escape text ≡ text
escape_url text h = escape_itself text (λ k d within. url_symbol_itself (get_or text k d) (h.symbols k d within))

-- ---- texts in base64

abbrev symbols : List ℕ
symbols = engine_symbols standard

-- no symbol of base64 needs an escape
symbol_itself : (i : ℕ) → i < 64 → is_unescaped (slice_index symbols i) ≡ true
symbol_itself i within = AllPass-from_list_all is_unescaped symbols refl i 0 within

one_more : (i : ℕ) (text : List ℕ) → i < 64 → AllPass is_unescaped text → AllPass is_unescaped (slice_index symbols i ∷ text)
one_more i text within rest = All-cons (λ x. is_unescaped x ≡ true) (slice_index symbols i) text (symbol_itself i within) rest

symbols_plain : (m : List ℕ) → IsBytes m → AllPass is_unescaped (encode_symbols symbols m)
unfolding encode_symbols
symbols_plain [] h = All-nil (λ x. is_unescaped x ≡ true)
symbols_plain (a ∷ []) h =
    let small : a < 256 = h 0 in
    one_more (a / 4) (slice_index symbols (a % 4 * 16) ∷ []) (omega arith) (one_more (a % 4 * 16) [] (omega arith) (All-nil (λ x. is_unescaped x ≡ true)))
symbols_plain (a ∷ b ∷ []) h =
    let small : a < 256 = h 0 in
    let small_b : b < 256 = h 1 in
    one_more (a / 4) (slice_index symbols (a % 4 * 16 + b / 16) ∷ slice_index symbols (b % 16 * 4) ∷ []) (omega arith)
    (one_more (a % 4 * 16 + b / 16) (slice_index symbols (b % 16 * 4) ∷ []) (omega arith)
    (one_more (b % 16 * 4) [] (omega arith) (All-nil (λ x. is_unescaped x ≡ true))))
symbols_plain (a ∷ b ∷ c ∷ rest) h =
    let small : a < 256 = h 0 in
    let small_b : b < 256 = h 1 in
    let small_c : c < 256 = h 2 in
    let more = encode_symbols symbols rest in
    one_more (a / 4) (slice_index symbols (a % 4 * 16 + b / 16) ∷ slice_index symbols (b % 16 * 4 + c / 64) ∷ slice_index symbols (c % 64) ∷ more) (omega arith)
    (one_more (a % 4 * 16 + b / 16) (slice_index symbols (b % 16 * 4 + c / 64) ∷ slice_index symbols (c % 64) ∷ more) (omega arith)
    (one_more (b % 16 * 4 + c / 64) (slice_index symbols (c % 64) ∷ more) (omega arith)
    (one_more (c % 64) more (omega arith) (symbols_plain rest (λ i. h (suc (suc (suc i))))))))

pub escape_base64 : (der : List ℕ) → IsCertificate der → escape (encode_of standard der) ≡ encode_of standard der
escape_base64 der h =
    escape_itself (encode_of standard der)
    (All-append (λ x. is_unescaped x ≡ true) (encode_symbols symbols der) _ (symbols_plain der h.bytes)
    (All-replicate (λ x. is_unescaped x ≡ true) _ 61 refl))
