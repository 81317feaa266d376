-- The digits of digests: plain, and in the order of the bytes.
use Rattle.std.proofs.Common.{◌≡◌, ℕ, zero, suc, ◌+◌, ◌/◌, ◌%◌, ◌<◌, ◌==◌, Bool, true, cond, ◌&&◌, ◌⊎◌, inl, inr}
use Rattle.std.proofs.Common.{nat_lt, List, [], ◌∷◌, length, slice_index, refl, ap, sym, ◌∙◌, arith, Ok, Err, Result}
use Rattle.std.proofs.Common.{subst}
use Rattle.std.specs.Prelude.{MatchResult}
use Rattle.hex.specs.declared.error.FromHexError.{FromHexError}
use Rattle.std.proofs.lemmas.Bool.{and_parts, cases_lt, eqb-true}
use Rattle.std.proofs.lemmas.Bool.Decides.{nat_tests}
use Rattle.std.specs.declared.cmp.Ordering.{Ordering}
use Rattle.std.specs.declared.cmp.Ordering.TheVariants.{Less, Equal, Greater}
use Rattle.std.specs.Ordering.{nat_cmp, ordering_then}
use Rattle.std.specs.Cmp.Lexicographic.{slice_cmp}
use Rattle.std.specs.List.{AllByRecursion, AllPass}
use Rattle.std.proofs.lemmas.List.Elements.{All-from_recursion}
use Rattle.jwk_set.specs.Json.{is_unescaped}
use Rattle.hex.specs.Hex.{encode_lower, encode_with, lower_digits, IsBytes, decode_sized, decode_pairs}
use Rattle.hex.proofs.HexLemmas.{length-encode_with, decode_pairs-encode_with, IsDigits-lower_digits}
use Rattle.std.specs.Str.{IsUtf8}
use Rattle.std.proofs.lemmas.Str.{IsUtf8-from_ascii}
use Rattle.std.proofs.lemmas.Str.Ascii.{IsAscii-from_all}
use Rattle.receipt_core.specs.Receipt.{IsDigest}
use Rattle.receipt_core.proofs.OrderFacts.{Above, then_assoc, cmp_less, cmp_equal, cmp_greater, by_order_of}

-- the digit of a value below 16
abbrev digit_of : ℕ → ℕ
digit_of d = cond (nat_lt d 10) (48 + d) (87 + d)

-- the test of the first n places of the library's table of digits
abbrev all_digits : ℕ → Bool
all_digits zero = true
all_digits (suc n) = (slice_index lower_digits n == digit_of n) && all_digits n

-- a place below n passed the test
all_digits-at : (n d : ℕ) → all_digits n ≡ true → d < n → slice_index lower_digits d ≡ digit_of d
all_digits-at zero d h lt = absurd (omega arith)
all_digits-at (suc n) d h lt =
    let parts = and_parts (slice_index lower_digits n == digit_of n) (all_digits n) h in
    elim (cases_lt d n) [
      | inl below ↦ all_digits-at n d parts.1 below
      | inr top ↦
          let e : d ≡ n = omega arith in
          rw e (eqb-true (slice_index lower_digits n) (digit_of n) parts.0)
    ]

-- the digits of the library's table are those written here as arithmetic
lower_digit : (d : ℕ) → d < 16 → slice_index lower_digits d ≡ digit_of d
lower_digit d h = all_digits-at 16 d refl h

-- a greater value has a greater digit
digits_rise : (d e : ℕ) → d < e → digit_of d < digit_of e
digits_rise d e h = grind (arith, nat_tests)

-- digits are ordered as their values are
same_order : (d e : ℕ) → d < 16 → e < 16 → nat_cmp (slice_index lower_digits d) (slice_index lower_digits e) ≡ nat_cmp d e
same_order d e p q =
    rw (lower_digit d p, lower_digit e q)
    (by_order_of (λ x y. nat_cmp (digit_of x) (digit_of y) ≡ nat_cmp x y) d e
    (λ h. cmp_less (digit_of d) (digit_of e) (digits_rise d e h) ∙ sym (cmp_less d e h))
    (λ h. cmp_equal (digit_of d) (digit_of e) (ap digit_of h) ∙ sym (cmp_equal d e h))
    (λ h. cmp_greater (digit_of d) (digit_of e) (digits_rise e d h) ∙ sym (cmp_greater d e h)))

-- two orders in turn find less if the first does, or the second after a tie
then_less : (a b : Ordering) → (a ≡ Less) ⊎ ((a ≡ Equal) × (b ≡ Less)) → ordering_then a b ≡ Less
then_less a b (inl h) = rw h refl
then_less a b (inr h) = let front = h.0 in let back = h.1 in rw (front, back) refl

-- two orders in turn find greater if the first does, or the second after a tie
then_greater : (a b : Ordering) → (a ≡ Greater) ⊎ ((a ≡ Equal) × (b ≡ Greater)) → ordering_then a b ≡ Greater
then_greater a b (inl h) = rw h refl
then_greater a b (inr h) = let front = h.0 in let back = h.1 in rw (front, back) refl

-- the digits of a lesser byte are less; the next two are for a greater byte and for an equal one
byte_less : (b c : ℕ) → b < c → ordering_then (nat_cmp (b / 16) (c / 16)) (nat_cmp (b % 16) (c % 16)) ≡ nat_cmp b c
byte_less b c h =
    then_less (nat_cmp (b / 16) (c / 16)) (nat_cmp (b % 16) (c % 16))
    (elim (cases_lt (b / 16) (c / 16)) [
      | inl front ↦ inl (cmp_less (b / 16) (c / 16) front)
      | inr front ↦ let same : b / 16 ≡ c / 16 = omega arith in inr (cmp_equal (b / 16) (c / 16) same, cmp_less (b % 16) (c % 16) (omega arith))
    ])
    ∙ sym (cmp_less b c h)

-- the digits of a greater byte are greater
byte_greater : (b c : ℕ) → c < b → ordering_then (nat_cmp (b / 16) (c / 16)) (nat_cmp (b % 16) (c % 16)) ≡ nat_cmp b c
byte_greater b c h =
    then_greater (nat_cmp (b / 16) (c / 16)) (nat_cmp (b % 16) (c % 16))
    (elim (cases_lt (c / 16) (b / 16)) [
      | inl front ↦ inl (cmp_greater (b / 16) (c / 16) front)
      | inr front ↦ let same : b / 16 ≡ c / 16 = omega arith in inr (cmp_equal (b / 16) (c / 16) same, cmp_greater (b % 16) (c % 16) (omega arith))
    ])
    ∙ sym (cmp_greater b c h)

-- the digits of equal bytes tie
byte_equal : (b c : ℕ) → b ≡ c → ordering_then (nat_cmp (b / 16) (c / 16)) (nat_cmp (b % 16) (c % 16)) ≡ nat_cmp b c
byte_equal b c e =
    (λ i. ordering_then (cmp_equal (b / 16) (c / 16) (ap (λ x. x / 16) e) i) (cmp_equal (b % 16) (c % 16) (ap (λ x. x % 16) e) i)) ∙ sym (cmp_equal b c e)

-- a byte's two digits are in order as the byte is
byte_order : (b c : ℕ) → b < 256 → c < 256 → ordering_then (nat_cmp (b / 16) (c / 16)) (nat_cmp (b % 16) (c % 16)) ≡ nat_cmp b c
byte_order b c p q =
    by_order_of (λ x y. ordering_then (nat_cmp (x / 16) (y / 16)) (nat_cmp (x % 16) (y % 16)) ≡ nat_cmp x y) b c
    (byte_less b c) (byte_equal b c) (byte_greater b c)

-- each of these is below 256
abbrev pub AreOctets : List ℕ → Type 0
AreOctets = AllByRecursion (λ b. b < 256)

-- digits are in the order of the bytes
pub encode_lower-order : (a b : List ℕ) → AreOctets a → AreOctets b → slice_cmp nat_cmp (encode_lower a) (encode_lower b) ≡ slice_cmp nat_cmp a b
unfolding encode_with
encode_lower-order [] [] p q = refl
encode_lower-order [] (c ∷ b) p q = refl
encode_lower-order (x ∷ a) [] p q = refl
encode_lower-order (x ∷ a) (y ∷ b) p q =
    (λ i. ordering_then (same_order (x / 16) (y / 16) (omega (arith, p.0)) (omega (arith, q.0)) i)
    (ordering_then (same_order (x % 16) (y % 16) (omega arith) (omega arith) i) (encode_lower-order a b p.1 q.1 i)))
    ∙ sym (then_assoc (nat_cmp (x / 16) (y / 16)) (nat_cmp (x % 16) (y % 16)) (slice_cmp nat_cmp a b))
    ∙ ap (λ o. ordering_then o (slice_cmp nat_cmp a b)) (byte_order x y p.0 q.0)

-- a digit is above the quotation mark, so texts of digits that end with one keep their order
digit_above : (d : ℕ) → d < 16 → 34 < slice_index lower_digits d
digit_above d h = let e = lower_digit d h in grind (arith, nat_tests, e)

-- so is each digit of some bytes
pub Above-encode_lower : (a : List ℕ) → AreOctets a → Above 34 (encode_lower a)
unfolding encode_with
Above-encode_lower [] h = tt
Above-encode_lower (x ∷ a) h = (digit_above (x / 16) (omega (arith, h.0)), (digit_above (x % 16) (omega arith), Above-encode_lower a h.1))

-- a digit needs no escape in a JSON string
unescaped_digit : (d : ℕ) → d < 16 → is_unescaped (slice_index lower_digits d) ≡ true
unescaped_digit d h = rw (lower_digit d h) (grind (arith, nat_tests))

-- no digit of some bytes needs one
each_unescaped : (a : List ℕ) → AreOctets a → AllByRecursion (λ b. is_unescaped b ≡ true) (encode_lower a)
unfolding encode_with
each_unescaped [] h = tt
each_unescaped (x ∷ a) h = (unescaped_digit (x / 16) (omega (arith, h.0)), (unescaped_digit (x % 16) (omega arith), each_unescaped a h.1))

-- the same in the form that the laws of `jwk_set` ask for
pub unescaped-encode_lower : (a : List ℕ) → AreOctets a → AllPass is_unescaped (encode_lower a)
unescaped-encode_lower a h = All-from_recursion (λ b. is_unescaped b ≡ true) (encode_lower a) (each_unescaped a h)

-- what is below 256 at each index is so by recursion
pub AreOctets-from_reads : (xs : List ℕ) → ((i : ℕ) → slice_index xs i < 256) → AreOctets xs
AreOctets-from_reads [] h = tt
AreOctets-from_reads (x ∷ xs) h = (h 0, AreOctets-from_reads xs (λ i. h (suc i)))

-- ---- ASCII, and read back

-- a digit is ASCII
small_digit : (d : ℕ) → d < 16 → slice_index lower_digits d < 128
small_digit d h = let e = lower_digit d h in grind (arith, nat_tests, e)

-- the digits of some bytes are ASCII
each_small : (a : List ℕ) → AreOctets a → AllByRecursion (λ b. b < 128) (encode_lower a)
unfolding encode_with
each_small [] h = tt
each_small (x ∷ a) h = (small_digit (x / 16) (omega (arith, h.0)), (small_digit (x % 16) (omega arith), each_small a h.1))

-- the digits of some bytes are UTF-8
pub IsUtf8-encode_lower : (a : List ℕ) → AreOctets a → IsUtf8 (encode_lower a)
IsUtf8-encode_lower a h = IsUtf8-from_ascii (encode_lower a)
    (IsAscii-from_all (encode_lower a) (All-from_recursion (λ b. b < 128) (encode_lower a) (each_small a h)))

-- bytes by recursion are bytes at each index, as the library of digits asks for
IsBytes-from_octets : (a : List ℕ) → AreOctets a → IsBytes a
IsBytes-from_octets [] h zero = omega arith
IsBytes-from_octets [] h (suc i) = omega arith
IsBytes-from_octets (x ∷ a) h zero = h.0
IsBytes-from_octets (x ∷ a) h (suc i) = IsBytes-from_octets a h.1 i

-- the digits of a digest are 64
pub length-encode_lower : (a : List ℕ) → IsDigest a → length (encode_lower a) ≡ 64
length-encode_lower a h = let size = h.size in length-encode_with lower_digits a ∙ omega arith

-- a text of 64 digits decodes by pairs into 32 bytes
by_pairs : (text : List ℕ) → length text ≡ 64 → decode_sized text 32 ≡ decode_pairs 0 text
by_pairs text h = rw h refl

-- the digits of a digest decode to it
pub decode_sized-encode_lower : (a : List ℕ) → IsDigest a → decode_sized (encode_lower a) 32 ≡ Ok a
decode_sized-encode_lower a h =
    by_pairs (encode_lower a) (length-encode_lower a h) ∙ decode_pairs-encode_with lower_digits IsDigits-lower_digits 0 a (IsBytes-from_octets a h.octets)

-- decoding a digest's digits into 32 bytes returns `Ok` and leaves the digest there
pub decoded_digest : (text out d : List ℕ) (r : Result (Unit {0}) FromHexError)
    → MatchResult (decode_sized text 32) (λ bytes. (r ≡ Ok tt) × (out ≡ bytes)) (λ e. r ≡ Err e)
    → encode_lower d ≡ text → IsDigest d → (r ≡ Ok tt) × (out ≡ d)
decoded_digest text out d r h e is =
    let stated : decode_sized text 32 ≡ Ok d = ap (λ t. decode_sized t 32) (sym e) ∙ decode_sized-encode_lower d is in
    subst (λ x. MatchResult x (λ bytes. (r ≡ Ok tt) × (out ≡ bytes)) (λ e. r ≡ Err e)) stated h
