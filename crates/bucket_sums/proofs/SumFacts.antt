-- Sums, and their lines.
use Rattle.std.proofs.Common.{◌≡◌, ◌∙◌, ℕ, ◌≤◌, List, [], ◌∷◌, ◌++◌, length, map, drop, refl, sym, ap, append-nil}
use Rattle.std.specs.List.{flat_map}
use Rattle.std.proofs.lemmas.List.{drop_all}
use Rattle.bucket_sums.specs.Lines.{sum_line, sums_text}
use Rattle.bucket_sums.specs.declared.sum.Sum.{Sum}

-- a sum as its bytes
abbrev pub bytes_of : Sum → List ℕ
bytes_of sum = sum.0

-- the line of a sum with its line feed
abbrev pub line_of : Sum → List ℕ
line_of sum = sum_line (bytes_of sum)

-- Texts of images are texts of the items.
lines_of-map : (xs : List Sum) → sums_text (map bytes_of xs) ≡ flat_map line_of xs
lines_of-map [] = refl
lines_of-map (x ∷ xs) = ap (λ t. line_of x ++ t) (lines_of-map xs)

-- After the loop all lines are written.
pub lines-pushed : (out last : List ℕ) (items sums : List Sum) (all : List (List ℕ)) (index : ℕ) → length items ≤ index
    → last ++ flat_map line_of (drop index items) ≡ out ++ flat_map line_of items → items ≡ sums → all ≡ map bytes_of sums
    → last ≡ out ++ sums_text all
lines-pushed out last items sums all index over so_far same e =
    sym (append-nil last) ∙ ap (λ xs. last ++ flat_map line_of xs) (sym (drop_all index items over)) ∙ so_far
    ∙ ap (λ t. out ++ t) (sym (lines_of-map items)) ∙ ap (λ xs. out ++ sums_text (map bytes_of xs)) same ∙ ap (λ xs. out ++ sums_text xs) (sym e)
