-- A first line that counts its input is taken apart in one way.
use Rattle.std.proofs.Common.{◌≡◌, ℕ, zero, suc, ◌<◌, ◌≤◌, ◌+◌, Bool, true, false, List, [], ◌∷◌, ◌++◌}
use Rattle.std.proofs.Common.{Option, None, Some, codes, drop, length, length-append, refl, sym, ap, ap₂, ◌∙◌, subst, unwrap_or, arith}
use Rattle.std.proofs.lemmas.List.{append_cancel_left, append_cancel_right}
use Rattle.std.specs.Prelude.{option_and_then}
use Rattle.std.specs.List.{AllPass}
use Rattle.serde_json.specs.Data.{Data}
use Rattle.serde_json.specs.Find.{as_number, as_u64}
use Rattle.jwk_set.specs.Json.{IsJson}
use Rattle.request_lines.specs.RequestLines.{CountsInput, IsBraced, IsWholeNumber, RefusesInput, SplitsCounted, is_no_comma, request_limit}
use Rattle.request_lines.specs.Inside.LineSteps.{IsFirstPart, RefusesCount}
use Rattle.request_lines.specs.declared.request_error.RequestError.{RequestError}
use Rattle.request_lines.specs.declared.request_error.RequestError.TheVariants.{TooLong, BadLine, NoMemory}

-- ---- commas

-- a comma fails the test for other bytes
is_comma : (b : ℕ) → b ≡ 44 → is_no_comma b ≡ true → ⊥
is_comma b same passes = let no : is_no_comma 44 ≡ true = subst (λ x. is_no_comma x ≡ true) same passes in cc

-- a text without a comma has none after its first byte
all_later : (b : ℕ) (bs : List ℕ) → AllPass is_no_comma (b ∷ bs) → AllPass is_no_comma bs
all_later b bs plain k d below = plain (suc k) d (omega arith)

-- a part and a comma after it have a comma
has_comma : (part rest : List ℕ) → AllPass is_no_comma (part ++ (44 ∷ rest)) → ⊥
has_comma [] rest plain = is_comma 44 refl (plain 0 0 (omega arith))
has_comma (b ∷ part) rest plain = has_comma part rest (all_later b (part ++ (44 ∷ rest)) plain)

-- a text has one first part
one_part : (part other rest more : List ℕ) → AllPass is_no_comma part → AllPass is_no_comma other
    → part ++ (44 ∷ rest) ≡ other ++ (44 ∷ more) → (part ≡ other) × (rest ≡ more)
one_part [] [] rest more p q e = (refl, ap (drop 1) e)
one_part [] (b ∷ other) rest more p q e = absurd (is_comma b (let same : 44 ≡ b = cc in sym same) (q 0 0 (omega arith)))
one_part (b ∷ part) [] rest more p q e = absurd (is_comma b (let same : b ≡ 44 = cc in same) (p 0 0 (omega arith)))
one_part (b ∷ part) (c ∷ other) rest more p q e =
    let first : b ≡ c = cc in
    let later = one_part part other rest more (all_later b part p) (all_later c other q) (ap (drop 1) e) in
    (ap₂ (λ x l. x ∷ l) first later.0, later.1)

-- ---- the parts of a line

-- what comes before the count
abbrev first_label : List ℕ
first_label = codes "{\"input\":"

-- what comes between the comma and the arguments
abbrev second_label : List ℕ
second_label = codes "\"words\":"

-- what comes after the comma
abbrev after_comma : List ℕ → List ℕ
after_comma words = second_label ++ (words ++ codes "}")

-- after the first label come the count and what follows it
pub after_first : (line rest count words : List ℕ) → line ≡ first_label ++ rest → SplitsCounted line count words
    → rest ≡ count ++ (44 ∷ after_comma words)
after_first line rest count words e s = append_cancel_left first_label rest (count ++ (44 ∷ after_comma words)) (sym e ∙ s.whole)

-- a line that has the parts begins with the first label
pub has_first : (line count words : List ℕ) → SplitsCounted line count words → line ≡ first_label ++ (count ++ (44 ∷ after_comma words))
has_first line count words s = s.whole

-- without a comma after the label it has none
pub no_comma : (line rest count words : List ℕ) → line ≡ first_label ++ rest → AllPass is_no_comma rest → SplitsCounted line count words → ⊥
no_comma line rest count words e plain s =
    has_comma count (after_comma words) (subst (AllPass is_no_comma) (after_first line rest count words e s) plain)

-- what comes before the first comma is the count, and the rest comes after it
pub first_part_is : (line rest part more count words : List ℕ) → line ≡ first_label ++ rest → IsFirstPart rest part more → SplitsCounted line count words
    → (part ≡ count) × (more ≡ after_comma words)
first_part_is line rest part more count words e p s =
    one_part part count more (after_comma words) p.plain s.plain (sym p.whole ∙ after_first line rest count words e s)

-- after the second label come the arguments and the brace
pub after_second : (line rest part more last count words : List ℕ) → line ≡ first_label ++ rest → IsFirstPart rest part more
    → more ≡ second_label ++ last → SplitsCounted line count words → last ≡ words ++ codes "}"
after_second line rest part more last count words e p f s =
    append_cancel_left second_label last (words ++ codes "}") (sym f ∙ (first_part_is line rest part more count words e p s).1)

-- a line that was taken apart so has these parts
pub split_whole : (line rest part more last words : List ℕ) → line ≡ first_label ++ rest → IsFirstPart rest part more
    → more ≡ second_label ++ last → last ≡ words ++ codes "}" → SplitsCounted line part words
split_whole line rest part more last words e p f g = record {
  whole = e ∙ ap (λ r. first_label ++ r) (p.whole ∙ ap (λ r. part ++ (44 ∷ r)) (f ∙ ap (λ r. second_label ++ r) g));
  plain = p.plain;
}

-- a line has one count and one text of arguments
pub one_split : (line count words other more : List ℕ) → SplitsCounted line count words → SplitsCounted line other more
    → (count ≡ other) × (words ≡ more)
one_split line count words other more s t =
    let both = one_part count other (after_comma words) (after_comma more) s.plain t.plain
    (append_cancel_left first_label (count ++ (44 ∷ after_comma words)) (other ++ (44 ∷ after_comma more)) (sym s.whole ∙ t.whole)) in
    (both.0, append_cancel_right words more (codes "}") (append_cancel_left second_label (words ++ codes "}") (more ++ codes "}") both.1))

-- one value is in an option
one_of_some : {X : Type 0} (x y : X) → Some x ≡ Some y → x ≡ y
one_of_some x y e = ap (λ o. unwrap_or o x) e

-- a text is one number
pub one_count : (text : List ℕ) (n m : ℕ) → IsWholeNumber text n → IsWholeNumber text m → n ≡ m
one_count text n m a b =
    let same : a.value ≡ b.value = one_of_some a.value b.value (sym a.json.1 ∙ b.json.1) in
    one_of_some n m (sym a.number ∙ ap (λ d. option_and_then as_u64 (as_number d)) same ∙ b.number)

-- a line counts one number of bytes
pub one_counted : (line words more : List ℕ) (n m : ℕ) → CountsInput line words n → CountsInput line more m → (n ≡ m) × (words ≡ more)
one_counted line words more n m a b =
    let parts = one_split line a.count words b.count more a.split b.split in
    (one_count b.count n m (subst (λ t. IsWholeNumber t n) parts.0 a.is) b.is, parts.1)

-- a line that has the parts begins with a brace
braced : (line count words : List ℕ) → SplitsCounted line count words → IsBraced line
braced line count words s = (codes "\"input\":" ++ (count ++ (44 ∷ after_comma words)), s.whole)

-- if the first member is not a number, no input is counted
pub refuses_count : (line count words : List ℕ) (e : RequestError) → length line ≤ request_limit → SplitsCounted line count words → RefusesCount count e
    → RefusesInput line e
refuses_count line count words TooLong short split long =
    let whole : length line ≡ length (first_label ++ (count ++ (44 ∷ after_comma words))) = ap length split.whole in
    omega (arith, whole, length-append first_label (count ++ (44 ∷ after_comma words)), length-append count (44 ∷ after_comma words), long)
refuses_count line count words BadLine short split none = (
  short,
  braced line count words split,
  λ text n counts. none n
      (subst (λ t. IsWholeNumber t n) (sym (one_split line count words counts.count text split counts.split).0) counts.is),
)
refuses_count line count words NoMemory short split none = tt
