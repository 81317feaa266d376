-- Seconds in decimal: what is written of them is read as them
use Rattle.std.proofs.Common.{◌≡◌, ℕ, zero, suc, false, Some, Err, ◌<◌, ◌≤◌, ◌^◌, ℤ, pos, negsuc, neg_ℤ, List, ◌∷◌}
use Rattle.std.proofs.Common.{length, drop, Result, Ok, refl, sym, ap, ◌∙◌, subst, arith, decimal}
use Rattle.std.specs.Int.{w64}
use Rattle.std.specs.Prelude.{FitsSigned, MatchResult, is_ok}
use Rattle.std.specs.Result.{result_ok}
use Rattle.std.specs.Fmt.{signed_decimal}
use Rattle.std.specs.Str.{IsAscii}
use Rattle.std.specs.Str.Parse.{AllDigits, ParsesSigned}
use Rattle.std.proofs.lemmas.Fmt.{IsAscii-decimal, parse-signed_decimal, decimal_is_IsNumeral, decimal_injective, length-decimal-le}
use Rattle.std.proofs.lemmas.Str.Parse.{numerals_by_value, tells_digits, parse_signed_minus, digit_from_value}
use Rattle.std.proofs.lemmas.Result.{Ok-from_Ok_iff}

-- a number of 64 signed bits that is not negative is below 2^63
below_power : (n : ℕ) → FitsSigned w64 (pos n) → n < 2 ^ 63
below_power n fits = omega (arith, fits.sfits)

-- a negative one is -2^63 or above
at_most_power : (n : ℕ) → FitsSigned w64 (negsuc n) → suc n ≤ 2 ^ 63
at_most_power n fits = omega (arith, fits.sfits)

-- a number of 64 signed bits in decimal parses to itself
pub parse-seconds : {E : Type 0} (z : ℤ) (bs : List ℕ) (r : Result ℤ E) → FitsSigned w64 z → bs ≡ signed_decimal z → ParsesSigned w64 10 bs r → r ≡ Ok z
parse-seconds (pos n) bs r fits is h = parse-signed_decimal w64 (pos n) bs r fits (below_power n fits) is h
parse-seconds (negsuc n) bs r fits is h =
    let most = at_most_power n fits in
    let k = decimal_is_IsNumeral (suc n) (omega arith) in
    let read = parse_signed_minus (numerals_by_value _ tells_digits) w64 (45 ∷ decimal (suc n)) r (subst (λ l. ParsesSigned w64 10 l r) is h) refl in
    Ok-from_Ok_iff r _ _ read (k.0.1, k.0.0, omega (arith, k.1, fits.sfits)) ∙ ap (λ m. Ok (neg_ℤ (pos m))) k.1

-- such a decimal is ASCII
pub IsAscii-seconds : (z : ℤ) → FitsSigned w64 z → IsAscii (signed_decimal z)
IsAscii-seconds (pos n) fits i = let below = below_power n fits in IsAscii-decimal n (omega arith) i
IsAscii-seconds (negsuc n) fits zero = omega arith
IsAscii-seconds (negsuc n) fits (suc i) = let most = at_most_power n fits in IsAscii-decimal (suc n) (omega arith) i

-- such a decimal has 21 bytes at most
pub length-seconds : (z : ℤ) → FitsSigned w64 z → length (signed_decimal z) ≤ 21
length-seconds (pos n) fits = let below = below_power n fits in omega (arith, length-decimal-le 20 n (omega arith) (omega arith) (omega arith))
length-seconds (negsuc n) fits = let most = at_most_power n fits in omega (arith, length-decimal-le 20 (suc n) (omega arith) (omega arith) (omega arith))

-- a number that is not negative has no minus sign in decimal
no_minus : (n : ℕ) (ds : List ℕ) → n < 2 ^ 63 → decimal n ≡ 45 ∷ ds → ⊥
no_minus n ds below e = omega (arith, digit_from_value 45 (subst (AllDigits 10) e (decimal_is_IsNumeral n (omega arith)).0.1).0)

-- two numbers of 64 signed bits with one decimal are equal
pub one_text : (y z : ℤ) → FitsSigned w64 y → FitsSigned w64 z → signed_decimal y ≡ signed_decimal z → y ≡ z
one_text (pos m) (pos n) p q e = let a = below_power m p in let b = below_power n q in ap pos (decimal_injective m n (omega arith) (omega arith) e)
one_text (pos m) (negsuc n) p q e = absurd (no_minus m _ (below_power m p) e)
one_text (negsuc m) (pos n) p q e = absurd (no_minus n _ (below_power n q) (sym e))
one_text (negsuc m) (negsuc n) p q e =
    let a = at_most_power m p in
    let b = at_most_power n q in
    ap negsuc (omega (arith, decimal_injective (suc m) (suc n) (omega arith) (omega arith) (ap (drop 1) e)))

-- ---- what a call returned

-- if a result is not a value, it is an error, and what its contract says of errors holds of that
pub refused : {T E : Type 0} (r : Result T E) (P : T → Type 0) (Q : E → Type 0) → false ≡ is_ok r → MatchResult r P Q → (e : E) × Q e
refused (Ok x) P Q none all = cc
refused (Err e) P Q none all = (e, all)

-- if a result is a value, what its contract says of values holds of it
pub answered : {T E : Type 0} (r : Result T E) (P : T → Type 0) (Q : E → Type 0) (x : T) → Some x ≡ result_ok r → MatchResult r P Q → P x
answered (Ok y) P Q x some all = let same : y ≡ x = cc in subst P same all
answered (Err e) P Q x some all = cc

-- a text that does not parse is not a number of 64 signed bits in decimal
pub not_parsed : {E : Type 0} (z : ℤ) (bs : List ℕ) (r : Result ℤ E) → false ≡ is_ok r → ParsesSigned w64 10 bs r → FitsSigned w64 z → bs ≡ signed_decimal z → ⊥
not_parsed z bs r none h fits is = let whole = parse-seconds z bs r fits is h in cc (ap is_ok whole)

-- a text that parses is only the number in decimal that it parses to
pub parsed : {E : Type 0} (z x : ℤ) (bs : List ℕ) (r : Result ℤ E) → Some x ≡ result_ok r → ParsesSigned w64 10 bs r
    → FitsSigned w64 z → bs ≡ signed_decimal z → x ≡ z
parsed z x bs r some h fits is = let whole = ap result_ok (parse-seconds z bs r fits is h) in cc

-- what a text parses to has 64 signed bits
pub fits_parsed : {E : Type 0} (x : ℤ) (bs : List ℕ) (r : Result ℤ E) → Some x ≡ result_ok r → ParsesSigned w64 10 bs r → FitsSigned w64 x
fits_parsed x bs (Ok y) some h = let same : y ≡ x = cc in subst (FitsSigned w64) (sym h.1 ∙ same) h.0.1
fits_parsed x bs (Err e) some h = cc
