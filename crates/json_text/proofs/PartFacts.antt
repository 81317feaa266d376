-- Texts, made part by part and item by item.
use Rattle.std.proofs.Common.{◌≡◌, ◌<◌, ◌≤◌, ◌+◌, ℕ, List, [], ◌∷◌, ◌++◌, length, get_or, take, sym, ap, ◌∙◌, subst, append_assoc, add-one}
use Rattle.std.proofs.Math.Seq.{take-suc}
use Rattle.std.proofs.lemmas.List.{take_all}
use Rattle.std.specs.List.{AllZip}

-- two parts, one after the other, are one
pub one_text : (o x y first second : List ℕ) → first ≡ o ++ x → second ≡ first ++ y → second ≡ o ++ (x ++ y)
one_text o x y first second e f = f ∙ ap (λ t. t ++ y) e ∙ append_assoc o x y

-- one more item, and its text
zip_more : {X Y : Type 0} (R : X → Y → Type 0) (xs : List X) (ys : List Y) (x : X) (y : Y) → AllZip R xs ys → R x y → AllZip R (xs ++ x ∷ []) (ys ++ y ∷ [])
zip_more R [] [] x y zip one = (one, tt)
zip_more R [] (b ∷ ys) x y zip one = absurd zip
zip_more R (a ∷ xs) [] x y zip one = absurd zip
zip_more R (a ∷ xs) (b ∷ ys) x y zip one = (zip.0, zip_more R xs ys x y zip.1 one)

-- the text of the next item was made: the step of a loop over items
pub zip_next : {X Y : Type 0} (R : X → Y → Type 0) (xs : List X) (k : ℕ) (x : X) (old : List Y) (y : Y) (new : List Y) → k < length xs
    → x ≡ get_or xs k x → AllZip R (take k xs) old → R x y → new ≡ old ++ y ∷ [] → AllZip R (take (k + 1) xs) new
zip_next R xs k x old y new low is zip one now =
    let taken : take (k + 1) xs ≡ take k xs ++ x ∷ [] = ap (λ n. take n xs) (add-one k) ∙ take-suc xs k x low ∙ ap (λ z. take k xs ++ z ∷ []) (sym is) in
    subst (λ ys. AllZip R (take (k + 1) xs) ys) (sym now)
    (subst (λ items. AllZip R items (old ++ y ∷ [])) (sym taken) (zip_more R (take k xs) old x y zip one))

-- after the last item each has its text
pub zip_end : {X Y : Type 0} (R : X → Y → Type 0) (xs : List X) (k : ℕ) (ys : List Y) → length xs ≤ k → AllZip R (take k xs) ys → AllZip R xs ys
zip_end R xs k ys high zip = subst (λ items. AllZip R items ys) (take_all k xs high) zip
