-- Numbers lent from the end: the place of the last of them, and what is left before it
use Rattle.std.proofs.Common.{◌≡◌, ℕ, zero, suc, ◌+◌, ◌-◌, ◌<◌, ◌≤◌, List, [], ◌∷◌, ◌++◌, length, take}
use Rattle.std.proofs.Common.{◌==◌, true, eqb-true, refl, sym, subst, ◌∙◌, ap, arith, append_assoc, length-append}
use Rattle.std.proofs.lemmas.List.{append-nil, take-append-le}
use Rattle.std.proofs.Math.Seq.{take-append-add}
use Rattle.std.proofs.lemmas.List.Folds.{concat-append}
use Rattle.std.specs.List.{concat}
use Rattle.sorted_order.specs.Inside.Blocks.{AreHalfFull, block_at, length_before, IsSpot}

-- The first numbers of the sequence are the earlier blocks and the beginning of the block in which
-- they end.
take-concat : (bs : List (List ℕ)) (i w at : ℕ) → i < length bs → w ≤ length (block_at bs i) → length_before bs i + w ≡ at
    → take at (concat bs) ≡ concat (take i bs) ++ take w (block_at bs i)
take-concat [] i w at l h e = absurd (omega arith)
take-concat (b ∷ bs) zero w at l h e =
    let same : at ≡ w = omega arith in
    rw same (take-append-le w b (concat bs) h)
take-concat (b ∷ bs) (suc i) w at l h e =
    let split : at ≡ length b + (length_before bs i + w) = omega (arith, length-append b (concat (take i bs))) in
    rw split (take-append-add b (concat bs) (length_before bs i + w)
    ∙ ap (λ rest. b ++ rest) (take-concat bs i w (length_before bs i + w) (omega arith) h refl)
    ∙ sym (append_assoc b (concat (take i bs)) (take w (block_at bs i))))

-- This many numbers here and in the blocks, if they end in a block.
pub backward_view : (here : List ℕ) (bs : List (List ℕ)) (left i w : ℕ) (b : List ℕ) → length here ≤ left
    → IsSpot bs (left - length here) i w → b ≡ block_at bs i
    → here ++ (concat (take i bs) ++ take w b) ≡ take left (here ++ concat bs)
backward_view here bs left i w b more spot e =
    let split : left ≡ length here + (left - length here) = omega arith in
    rw e (sym (ap (λ n. take n (here ++ concat bs)) split ∙ take-append-add here (concat bs) (left - length here)
    ∙ ap (λ rest. here ++ rest) (take-concat bs i w (left - length here) spot.listed spot.within spot.whole)))

-- The first of half full blocks are half full.
pub half_before : (bs : List (List ℕ)) (i : ℕ) → AreHalfFull bs → AreHalfFull (take i bs)
half_before bs zero h = tt
half_before [] (suc i) h = tt
half_before (b ∷ bs) (suc i) h = (h.0, half_before bs i h.1)

-- The numbers of blocks end with those of the last one.
pub concat-last : (bs : List (List ℕ)) (b : List ℕ) → concat (bs ++ b ∷ []) ≡ concat bs ++ b
concat-last bs b = concat-append bs (b ∷ []) ∙ ap (λ rest. concat bs ++ rest) (append-nil b)

-- The blocks before the last of half full blocks are half full, and so is the last.
pub half_last : (bs : List (List ℕ)) (b : List ℕ) → AreHalfFull (bs ++ b ∷ []) → AreHalfFull bs × (256 ≤ length b)
half_last [] b h = (tt, h.0)
half_last (c ∷ bs) b h = let rest = half_last bs b h.1 in ((h.0, rest.0), rest.1)

-- If the last part is empty, the last block takes its place.
pub to_last : (first last : List ℕ) (bs others : List (List ℕ)) (block b : List ℕ) → (length last == 0) ≡ true → bs ≡ others ++ block ∷ []
    → b ≡ block → first ++ (concat bs ++ last) ≡ first ++ (concat others ++ b)
to_last first [] bs others block b none e f =
    rw (e, f) (ap (λ rest. first ++ rest) (append-nil (concat (others ++ block ∷ [])) ∙ concat-last others block))
to_last first (n ∷ last) bs others block b none e f = absurd (omega (arith, eqb-true (length (n ∷ last)) 0 none))

-- The last block that was found is not empty, and those before it are half full.
pub half_others : (bs others : List (List ℕ)) (block b : List ℕ) → bs ≡ others ++ block ∷ [] → b ≡ block → AreHalfFull bs
    → AreHalfFull others × (256 ≤ length b)
half_others bs others block b e f h = rw f (half_last others block (subst (λ (xs : List (List ℕ)). AreHalfFull xs) e h))
