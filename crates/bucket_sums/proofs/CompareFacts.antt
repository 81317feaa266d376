-- Lines that are compared, one after another; and what a mark says.
use Rattle.std.proofs.Common.{◌≡◌, ℕ, zero, suc, ◌<◌, ◌≤◌, Bool, true, false, List, [], ◌∷◌, ◌++◌, length, get_or, refl, ap, arith}
use Rattle.std.specs.Prelude.{not, bytes_eq}
use Rattle.std.proofs.lemmas.Slice.Eq.{bytes_eq-Decides}
use Rattle.hex.specs.Hex.{encode_lower}
use Rattle.bucket_sums.specs.Lines.{differs, differences}

-- A line more is compared with the next sum.
pub differences-more : (lines : List (List ℕ)) (line : List ℕ) (sums : List (List ℕ)) → length lines < length sums
    → differences (lines ++ line ∷ []) sums ≡ differences lines sums ++ differs line (get_or sums (length lines) []) ∷ []
differences-more [] line [] few = absurd (omega (arith, few))
differences-more [] line (sum ∷ sums) few = refl
differences-more (first ∷ lines) line [] few = absurd (omega (arith, few))
differences-more (first ∷ lines) line (sum ∷ sums) few =
    ap (λ marks. differs first sum ∷ marks) (differences-more lines line sums (omega (arith, few)))

-- There is a mark for each line, if there are not more lines than sums.
pub length-differences : (lines sums : List (List ℕ)) → length lines ≤ length sums → length (differences lines sums) ≡ length lines
length-differences [] sums few = refl
length-differences (line ∷ lines) [] few = absurd (omega (arith, few))
length-differences (line ∷ lines) (sum ∷ sums) few = ap suc (length-differences lines sums (omega (arith, few)))

-- A test that is denied and fails passes.
not-false : (b : Bool) → not b ≡ false → b ≡ true
not-false true e = refl
not-false false e = absurd (let no : true ≡ false = e in cc)

-- If nothing differs, the line is that of the sum.
same-line : (line sum : List ℕ) → differs line sum ≡ false → line ≡ encode_lower sum
same-line line sum none = (bytes_eq-Decides line (encode_lower sum)).0 (not-false (bytes_eq line (encode_lower sum)) none)

-- A place without a mark has the line of its sum.
pub unmarked-line : (lines sums : List (List ℕ)) (place : ℕ) → place < length lines → place < length sums
    → get_or (differences lines sums) place true ≡ false → get_or lines place [] ≡ encode_lower (get_or sums place [])
unmarked-line [] sums place l s none = absurd (omega (arith, l))
unmarked-line (line ∷ lines) [] place l s none = absurd (omega (arith, s))
unmarked-line (line ∷ lines) (sum ∷ sums) zero l s none = same-line line sum none
unmarked-line (line ∷ lines) (sum ∷ sums) (suc place) l s none = unmarked-line lines sums place (omega (arith, l)) (omega (arith, s)) none
