-- A byte in two hexadecimal digits.
use Rattle.std.proofs.Common.{◌≡◌, ℕ, ◌/◌, ◌%◌, List, [], ◌∷◌, ◌++◌, refl, sym, ap, ◌∙◌, append_assoc, slice_index}
use Rattle.hex.specs.Hex.{encode_lower, encode_with, lower_digits}

two_digits : (b : ℕ) → encode_lower (b ∷ []) ≡ slice_index lower_digits (b / 16) ∷ slice_index lower_digits (b % 16) ∷ []
unfolding encode_with
two_digits b = refl

-- the two after a byte, one after another
pub digits_after : (before s t u : List ℕ) (sign high low b : ℕ) → s ≡ before ++ sign ∷ [] → t ≡ s ++ high ∷ [] → u ≡ t ++ low ∷ []
    → high ≡ slice_index lower_digits (b / 16) → low ≡ slice_index lower_digits (b % 16) → u ≡ before ++ sign ∷ encode_lower (b ∷ [])
digits_after before s t u sign high low b e f g is_high is_low =
    g ∙ ap (λ (x : List ℕ). x ++ low ∷ []) (f ∙ ap (λ (x : List ℕ). x ++ high ∷ []) e)
    ∙ ap (λ (x : List ℕ). x ++ low ∷ []) (append_assoc before (sign ∷ []) (high ∷ []))
    ∙ append_assoc before (sign ∷ high ∷ []) (low ∷ [])
    ∙ ap (λ (h : ℕ). before ++ sign ∷ h ∷ low ∷ []) is_high
    ∙ ap (λ (l : ℕ). before ++ sign ∷ slice_index lower_digits (b / 16) ∷ l ∷ []) is_low
    ∙ ap (λ (x : List ℕ). before ++ sign ∷ x) (sym (two_digits b))
