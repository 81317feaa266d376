-- The first line of each configuration is one, with the digits of its digest, and has no line feed.
use Rattle.std.proofs.Common.{◌≡◌, ℕ, zero, suc, ◌+◌, ◌*◌, ◌/◌, ◌%◌, ◌<◌, ◌≤◌, ◌&&◌, Bool, true, inl, inr, List, [], ◌∷◌, ◌++◌, length, codes}
use Rattle.std.proofs.Common.{decimal, slice_index, refl, ap, subst, arith, length-append}
use Rattle.std.proofs.lemmas.Bool.{and_parts, cases_lt}
use Rattle.std.proofs.lemmas.Fmt.{length-decimal-le}
use Rattle.std.proofs.lemmas.List.Elements.{All-from_recursion}
use Rattle.std.specs.Int.{to_be_bytes, w32}
use Rattle.std.specs.List.{AllByRecursion}
use Rattle.hex.specs.Hex.{encode_lower, encode_with, lower_digits}
use Rattle.hex.proofs.HexLemmas.{length-encode_with}
use Rattle.sha2.specs.Sha256.{sha256, digest_bytes}
use Rattle.fed_config.specs.Configuration.{Configuration, config_id_of}
use Rattle.replica_texts.specs.Snapshots.{AreDigits, IsHeader, is_lower_hex_digit, digits_of, header_line, header_of, version_of}
use Rattle.replica_texts.specs.declared.format.Format.{Format}
use Rattle.replica_texts.specs.declared.format.Format.TheVariants.{First, Second}
use Rattle.replica_core.proofs.BucketFacts.{digest-bytes}
use Rattle.replica_texts.proofs.FeedFacts.{Feedless, feedless_both, feedless_decimal, feedless_by}

-- ---- digits

-- the test of the first n digits of the table, which computes
abbrev are_digits_below : ℕ → Bool
are_digits_below zero = true
are_digits_below (suc n) = is_lower_hex_digit (slice_index lower_digits n) && are_digits_below n

-- A digit below n passes the test.
digit_at : (n d : ℕ) → are_digits_below n ≡ true → d < n → is_lower_hex_digit (slice_index lower_digits d) ≡ true
digit_at zero d h lt = absurd (omega arith)
digit_at (suc n) d h lt =
    let parts = and_parts (is_lower_hex_digit (slice_index lower_digits n)) (are_digits_below n) h in
    elim (cases_lt d n) [
      | inl below ↦ digit_at n d parts.1 below
      | inr top ↦
          let e : d ≡ n = omega arith in
          rw e parts.0
    ]

-- The hexadecimal text of bytes has only hexadecimal digits.
each_digit : (a : List ℕ) → AllByRecursion (λ b. b < 256) a → AllByRecursion (λ b. is_lower_hex_digit b ≡ true) (encode_lower a)
unfolding encode_with
each_digit [] h = tt
each_digit (x ∷ a) h = (digit_at 16 (x / 16) refl (omega (arith, h.0)), (digit_at 16 (x % 16) refl (omega arith), each_digit a h.1))

-- Hexadecimal digits have no line feed among them.
feedless_digits : (xs : List ℕ) → AllByRecursion (λ b. is_lower_hex_digit b ≡ true) xs → Feedless xs
feedless_digits [] h = tt
feedless_digits (x ∷ xs) h = ((λ e. let no : is_lower_hex_digit 10 ≡ true = subst (λ b. is_lower_hex_digit b ≡ true) e h.0 in cc), feedless_digits xs h.1)

-- A digest has four bytes for each of its 32-bit numbers.
length-digest : (h : List ℕ) (n : ℕ) → length (digest_bytes h n) ≡ 4 * n
unfolding digest_bytes
length-digest h zero = refl
length-digest h (suc n) =
    let four : length (to_be_bytes w32 (slice_index h n)) ≡ 4 = refl in
    let before = length-digest h n in
    let both = length-append (digest_bytes h n) (to_be_bytes w32 (slice_index h n)) in
    omega (arith, four, before, both)

-- The digest of a configuration has 32 bytes.
length-config_id : (c : Configuration) → length (config_id_of c) ≡ 32
unfolding config_id_of sha256
length-config_id c = length-digest _ 8

-- The digits of a configuration's digest are all hexadecimal.
each_of_config : (c : Configuration) → AllByRecursion (λ b. is_lower_hex_digit b ≡ true) (digits_of c)
unfolding config_id_of sha256
each_of_config c = each_digit (config_id_of c) (digest-bytes _ 8)

-- The digits of a configuration are 64, as a first line has them.
config_digits : (c : Configuration) → AreDigits (digits_of c)
config_digits c = record {
  size = let twice = length-encode_with lower_digits (config_id_of c) in let bytes = length-config_id c in omega (arith, twice, bytes);
  each = All-from_recursion (λ b. is_lower_hex_digit b ≡ true) (digits_of c) (each_of_config c);
}

-- ---- the line

-- The number of a format is one digit.
few_versions : (format : Format) → version_of format < 10
few_versions First = omega arith
few_versions Second = omega arith

-- The first line of a configuration is spelt as a first line is.
pub is_first_line : (format : Format) (c : Configuration) → IsHeader (header_line format c) (digits_of c) (version_of format)
is_first_line format c = record { form = config_digits c; few = let few = few_versions format in omega (arith, few); spelt = refl }

-- The length of a first line, by its parts.
first_length : (digits number : List ℕ) → length (header_of digits number) ≡ 23 + length digits + length number
unfolding header_of
first_length digits number = simp length-append (omega arith)

-- A first line is not too long.
pub short_header : (text digits : List ℕ) (version : ℕ) → IsHeader text digits version → length text ≤ 8388608
short_header text digits version is =
    let same = ap length is.spelt in
    let whole = first_length digits (decimal version) in
    let size = is.form.size in
    let few = is.few in
    let number : length (decimal version) ≤ 20 = length-decimal-le 20 version (omega arith) (omega (arith, few)) few in
    omega (arith, same, whole, size, number)

-- The first line of a configuration is not too long.
pub short_first : (format : Format) (c : Configuration) → length (header_line format c) ≤ 8388608
short_first format c = short_header (header_line format c) (digits_of c) (version_of format) (is_first_line format c)

-- The first line of a configuration has none.
pub feedless_first : (format : Format) (c : Configuration) → Feedless (header_line format c)
unfolding header_of
feedless_first format c =
    let few = few_versions format in
    feedless_both (codes "{\"config\":\"") (digits_of c ++ (codes "\",\"format\":" ++
    (decimal (version_of format) ++ codes "}"))) (feedless_by (codes "{\"config\":\"") refl)
    (feedless_both (digits_of c) (codes "\",\"format\":" ++ (decimal (version_of format) ++ codes "}")) (feedless_digits (digits_of c) (each_of_config c))
    (feedless_both (codes "\",\"format\":") (decimal (version_of format) ++ codes "}") (feedless_by (codes "\",\"format\":") refl)
    (feedless_both (decimal (version_of format)) (codes "}") (feedless_decimal (version_of format) (omega (arith, few))) (feedless_by (codes "}") refl))))
