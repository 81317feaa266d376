-- The line of marks, from the marks and back.
use Rattle.std.proofs.Common.{◌≡◌, ℕ, ◌∙◌, Bool, true, false, inl, inr, List, [], ◌∷◌, length, map, refl, ap, sym, subst, arith}
use Rattle.std.specs.Prelude.{Option, Some, None, MatchOption, nat_eq}
use Rattle.std.specs.List.{AllPass, AllByRecursion}
use Rattle.std.proofs.lemmas.Bool.{cases_lt}
use Rattle.std.proofs.lemmas.Bool.Decides.{nat_tests}
use Rattle.std.proofs.lemmas.List.{length-map}
use Rattle.std.proofs.lemmas.List.Elements.{All-from_recursion, recursion_from_All}
use Rattle.bucket_sums.specs.Lines.{IsMarksLine, is_part_mark, mark_of, part_count}

-- the mark that a byte is
abbrev pub marked : ℕ → Bool
marked b = nat_eq b 49

-- Marks are written only with their two bytes.
marks-pass : (marks : List Bool) → AllByRecursion (λ b. is_part_mark b ≡ true) (map mark_of marks)
marks-pass [] = tt
marks-pass (true ∷ marks) = (refl, marks-pass marks)
marks-pass (false ∷ marks) = (refl, marks-pass marks)

-- A byte that is a mark's is that of the mark that it is.
back : (b : ℕ) → is_part_mark b ≡ true → mark_of (marked b) ≡ b
back b h =
    elim (cases_lt b 49) [
      | inl below ↦ let e : b ≡ 48 = grind (arith, nat_tests) in rw e refl
      | inr above ↦ let e : b ≡ 49 = grind (arith, nat_tests) in rw e refl
    ]

-- Bytes that are marks' are written back.
all-back : (text : List ℕ) → AllByRecursion (λ b. is_part_mark b ≡ true) text → map mark_of (map marked text) ≡ text
all-back [] h = refl
all-back (b ∷ text) h = ap (λ x. x ∷ map mark_of (map marked text)) (back b h.0) ∙ ap (λ t. b ∷ t) (all-back text h.1)

-- If a byte is not that of a mark, the text is not a line of marks.
pub no_marks : (text : List ℕ) → (AllPass is_part_mark text → ⊥) → (marks : List Bool) → IsMarksLine text marks → ⊥
no_marks text none marks is =
    none (subst (AllPass is_part_mark) (sym is.spelt) (All-from_recursion (λ b. is_part_mark b ≡ true) (map mark_of marks) (marks-pass marks)))

-- The marks that are read are those of the line, if there are enough.
pub read_marks : (text : List ℕ) (marks : List Bool) (found : Option (List Bool)) → AllPass is_part_mark text → marks ≡ map marked text
    → MatchOption found (length marks ≡ part_count → ⊥) (λ m. (m ≡ marks) × (length m ≡ part_count))
    → MatchOption found ((ms : List Bool) → IsMarksLine text ms → ⊥) (IsMarksLine text)
read_marks text marks None pass e none = λ ms is.
    none (let sizes : length text ≡ length ms = ap length is.spelt ∙ length-map ms mark_of in
    let own : length marks ≡ length text = ap length e ∙ length-map text marked in
    let all = is.all in omega (arith, sizes, own, all))
read_marks text marks (Some m) pass e is = record {
  all = is.1;
  spelt = sym (ap (map mark_of) (is.0 ∙ e) ∙ all-back text (recursion_from_All (λ b. is_part_mark b ≡ true) text pass));
}
