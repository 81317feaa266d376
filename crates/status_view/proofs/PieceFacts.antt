-- Pieces of a text, written one after another.
use Rattle.std.proofs.Common.{◌≡◌, ◌<◌, ◌≤◌, ◌+◌, ℕ, suc, Bool, true, List, ◌∷◌, ◌++◌, length, get_or, drop, flat_map, sym, ap, ◌∙◌}
use Rattle.std.proofs.Common.{append_assoc, append-nil, add-one, drop-cons}
use Rattle.std.proofs.lemmas.List.{drop_all}
use Rattle.json_text.specs.JsonText.{comma_where, parted_texts}

-- two pieces, one after the other, are one
pub two : (o x y first second : List ℕ) → first ≡ o ++ x → second ≡ first ++ y → second ≡ o ++ (x ++ y)
two o x y first second e f = f ∙ ap (λ t. t ++ y) e ∙ append_assoc o x y

-- the first of the items that are left, and the others
pub drop_next : {X : Type 0} (xs : List X) (k : ℕ) (x : X) → k < length xs → x ≡ get_or xs k x → drop k xs ≡ x ∷ drop (k + 1) xs
drop_next xs k x low is =
    let first = ap (λ z. z ∷ drop (suc k) xs) (sym is) in drop-cons xs k x low ∙ first ∙ ap (λ n. x ∷ drop n xs) (sym (add-one k))

-- the text of one more item was written: the step of a loop over items
pub flat_next : {X : Type 0} (text : X → List ℕ) (xs : List X) (k : ℕ) (x : X) (whole old new : List ℕ) → k < length xs → x ≡ get_or xs k x
    → old ++ flat_map text (drop k xs) ≡ whole → new ≡ old ++ text x → new ++ flat_map text (drop (k + 1) xs) ≡ whole
flat_next text xs k x whole old new low is so now =
    ap (λ t. t ++ flat_map text (drop (k + 1) xs)) now ∙ append_assoc old (text x) (flat_map text (drop (k + 1) xs))
    ∙ ap (λ rest. old ++ flat_map text rest) (sym (drop_next xs k x low is)) ∙ so

-- after the last item the whole is written
pub flat_end : {X : Type 0} (text : X → List ℕ) (xs : List X) (k : ℕ) (whole out : List ℕ) → length xs ≤ k
    → out ++ flat_map text (drop k xs) ≡ whole → out ≡ whole
flat_end text xs k whole out high so = sym (append-nil out) ∙ ap (λ rest. out ++ flat_map text rest) (sym (drop_all k xs high)) ∙ so

-- the same with a comma before each item but the first
pub parted_next : {X : Type 0} (text : X → List ℕ) (xs : List X) (k : ℕ) (x : X) (later : Bool) (whole old mid new : List ℕ)
    → k < length xs → x ≡ get_or xs k x → old ++ parted_texts text later (drop k xs) ≡ whole → mid ≡ old ++ comma_where later
    → new ≡ mid ++ text x → new ++ parted_texts text true (drop (k + 1) xs) ≡ whole
parted_next text xs k x later whole old mid new low is so comma now =
    ap (λ t. t ++ parted_texts text true (drop (k + 1) xs)) (two old (comma_where later) (text x) mid new comma now)
    ∙ append_assoc old (comma_where later ++ text x) (parted_texts text true (drop (k + 1) xs))
    ∙ ap (λ t. old ++ t) (append_assoc (comma_where later) (text x) (parted_texts text true (drop (k + 1) xs)))
    ∙ ap (λ rest. old ++ parted_texts text later rest) (sym (drop_next xs k x low is)) ∙ so

pub parted_end : {X : Type 0} (text : X → List ℕ) (xs : List X) (k : ℕ) (later : Bool) (whole out : List ℕ) → length xs ≤ k
    → out ++ parted_texts text later (drop k xs) ≡ whole → out ≡ whole
parted_end text xs k later whole out high so =
    sym (append-nil out) ∙ ap (λ rest. out ++ parted_texts text later rest) (sym (drop_all k xs high)) ∙ so
