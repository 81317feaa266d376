-- The parts of a first line that are guessed are those of any such line that the text is.
use Rattle.std.proofs.Common.{◌≡◌, ℕ, zero, suc, ◌+◌, ◌<◌, ◌^◌, ◌%◌, Bool, true, false, List, [], ◌∷◌, ◌++◌, length}
use Rattle.std.proofs.Common.{length-append, take, drop, decimal, refl, ap, sym, ◌∙◌, subst, arith}
use Rattle.std.proofs.lemmas.Bool.Decides.{nat_tests}
use Rattle.std.proofs.lemmas.Fmt.{decimal_by_steps}
use Rattle.std.proofs.lemmas.List.Elements.{All-from_recursion}
use Rattle.std.proofs.Math.Seq.{drop-append_seam, take-append_seam}
use Rattle.std.specs.Char.{is_ascii_digit}
use Rattle.std.specs.List.{AllByRecursion, AllPass}
use Rattle.hex.specs.Hex.{encode_lower}
use Rattle.spiffe_name.specs.Bytes.{FirstFails}
use Rattle.receipt_core.specs.Receipt.{IsDigest}
use Rattle.receipt_core.proofs.HexFacts.{length-encode_lower}

-- ---- decimal digits

-- each byte is a decimal digit
abbrev pub AreDecimal : List ℕ → Type 0
AreDecimal = AllByRecursion (λ b. is_ascii_digit b ≡ true)

-- Digits after digits are digits.
are_decimal_both : (xs ys : List ℕ) → AreDecimal xs → AreDecimal ys → AreDecimal (xs ++ ys)
are_decimal_both [] ys h k = k
are_decimal_both (x ∷ xs) ys h k = (h.0, are_decimal_both xs ys h.1 k)

-- The digit of a number below 10 is a decimal digit.
digit-below : (d : ℕ) → d < 10 → is_ascii_digit (48 + d) ≡ true
digit-below d h = grind (arith, nat_tests)

-- A decimal number has only decimal digits.
pub each-decimal : (n : ℕ) → n < 2 ^ 64 → AreDecimal (decimal n)
each-decimal =
    decimal_by_steps (λ n ds. AreDecimal ds) (λ n h. (digit-below n h, tt))
    (λ n ds h before. are_decimal_both ds ((48 + n % 10) ∷ []) before (digit-below (n % 10) (omega arith), tt))

-- A decimal number has only decimal digits, as the search states it.
pub digits-decimal : (n : ℕ) → n < 2 ^ 64 → AllPass is_ascii_digit (decimal n)
digits-decimal n h = All-from_recursion (λ b. is_ascii_digit b ≡ true) (decimal n) (each-decimal n h)

-- A test does not both pass and fail.
pub both-truths : (b : Bool) → b ≡ true → b ≡ false → ⊥
both-truths b t f = let no : true ≡ false = sym t ∙ f in cc

-- If all digits pass, the later ones do.
later-pass : (x : ℕ) (xs : List ℕ) → AllPass is_ascii_digit (x ∷ xs) → AllPass is_ascii_digit xs
later-pass x xs pass k d below = pass (suc k) d (omega arith)

-- If all digits pass, the first does.
first-pass : (x : ℕ) (xs : List ℕ) → AllPass is_ascii_digit (x ∷ xs) → is_ascii_digit x ≡ true
first-pass x xs pass = pass 0 0 (omega arith)

-- the first byte that is not a digit is at the end of the digits
pub stop-place : (digits : List ℕ) (stop : ℕ) (more : List ℕ) (place : ℕ) → AllPass is_ascii_digit digits
    → is_ascii_digit stop ≡ false → FirstFails is_ascii_digit (digits ++ (stop ∷ more)) place → place ≡ length digits
stop-place [] stop more zero pass none first = refl
stop-place [] stop more (suc place) pass none first = absurd (both-truths (is_ascii_digit stop) (first-pass stop (take place more) first.before) none)
stop-place (x ∷ digits) stop more zero pass none first = absurd (both-truths (is_ascii_digit x) (first-pass x digits pass) first.fails)
stop-place (x ∷ digits) stop more (suc place) pass none first =
    ap suc (stop-place digits stop more place (later-pass x digits pass) none (record {
      within = let w = first.within in omega (arith, w);
      before = later-pass x (take place (digits ++ (stop ∷ more))) first.before;
      fails = first.fails;
    }))

-- If something else than a digit follows, not all bytes are digits.
pub no-stop : (digits : List ℕ) (stop : ℕ) (more : List ℕ) → AllPass is_ascii_digit (digits ++ (stop ∷ more)) → is_ascii_digit stop ≡ false → ⊥
no-stop [] stop more pass none = both-truths (is_ascii_digit stop) (first-pass stop more pass) none
no-stop (x ∷ digits) stop more pass none = no-stop digits stop more (later-pass x (digits ++ (stop ∷ more)) pass) none

-- A text is cut at the end of its digits.
pub split-at-stop : (text digits : List ℕ) (stop : ℕ) (more : List ℕ) (place : ℕ) → AllPass is_ascii_digit digits
    → is_ascii_digit stop ≡ false → text ≡ digits ++ (stop ∷ more)
    → FirstFails is_ascii_digit text place → (take place text ≡ digits) × (drop place text ≡ stop ∷ more)
split-at-stop text digits stop more place pass none e first =
    let at = stop-place digits stop more place pass none (subst (λ t. FirstFails is_ascii_digit t place) e first) in (
      (λ i. take (at i) (e i)) ∙ take-append_seam digits (stop ∷ more),
      (λ i. drop (at i) (e i)) ∙ drop-append_seam digits (stop ∷ more),
    )

-- ---- digests

-- A text that begins with a digest has at least 64 bytes.
pub long-digest : (text digest rest : List ℕ) → IsDigest digest → text ≡ encode_lower digest ++ rest → length text < 64 → ⊥
long-digest text digest rest is e short =
    let size = length-encode_lower digest is in
    let whole : length text ≡ length (encode_lower digest ++ rest) = ap length e in
    let parts = length-append (encode_lower digest) rest in
    omega (arith, size, whole, parts, short)

-- A text that begins with a digest is cut after 64 bytes.
pub split-digest : (text digest rest : List ℕ) → IsDigest digest → text ≡ encode_lower digest ++ rest
    → (take 64 text ≡ encode_lower digest) × (drop 64 text ≡ rest)
split-digest text digest rest is e =
    let at : 64 ≡ length (encode_lower digest) = sym (length-encode_lower digest is) in (
      (λ i. take (at i) (e i)) ∙ take-append_seam (encode_lower digest) rest,
      (λ i. drop (at i) (e i)) ∙ drop-append_seam (encode_lower digest) rest,
    )
