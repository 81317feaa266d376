-- Parts of a list, added one after another.
use Rattle.std.proofs.Common.{◌≡◌, ◌<◌, ◌≤◌, ◌+◌, ℕ, List, [], ◌++◌, length, get_or, drop, refl, sym, ap, ◌∙◌, subst}
use Rattle.std.proofs.Common.{append_assoc, append-nil}
use Rattle.std.proofs.lemmas.List.{drop_all}
use Rattle.status_view.proofs.PieceFacts.{drop_next}
use Rattle.status_warnings.specs.CertificateEnds.{AddsPart, AreParts}

-- what the others give, after what was added, is all that is added
abbrev pub IsBegun : {X Y : Type 0} → (X → List Y → Type 0) → List X → List X → (old now : List Y) → Type 0
IsBegun {Y = Y} Gives xs left old now = (rest : List Y) → AreParts Gives left rest → AddsPart (AreParts Gives xs) old (now ++ rest)

-- the part of one more was added: the step of a loop
pub begun_more : {X Y : Type 0} (Gives : X → List Y → Type 0) (xs : List X) (k : ℕ) (x : X) (old now new : List Y)
    → k < length xs → x ≡ get_or xs k x → IsBegun Gives xs (drop k xs) old now → AddsPart (Gives x) now new
    → IsBegun Gives xs (drop (k + 1) xs) old new
begun_more Gives xs k x old now new low is begun added = λ rest are.
    let whole = begun (added.0 ++ rest) (subst (λ l. AreParts Gives l (added.0 ++ rest)) (sym (drop_next xs k x low is)) (added.0, rest, added.1, are, refl)) in
    (whole.0, whole.1, ap (λ t. t ++ rest) added.2 ∙ append_assoc now added.0 rest ∙ whole.2)

-- after the last one all were added
pub begun_all : {X Y : Type 0} (Gives : X → List Y → Type 0) (xs : List X) (k : ℕ) (old now : List Y)
    → length xs ≤ k → IsBegun Gives xs (drop k xs) old now → AddsPart (AreParts Gives xs) old now
begun_all Gives xs k old now high begun =
    let whole = begun [] (subst (λ l. AreParts Gives l []) (sym (drop_all k xs high)) refl) in
    (whole.0, whole.1, sym (append-nil now) ∙ whole.2)

-- the same if nothing was there before
pub all_begun : {X Y : Type 0} (Gives : X → List Y → Type 0) (xs : List X) (k : ℕ) (now : List Y)
    → length xs ≤ k → IsBegun Gives xs (drop k xs) [] now → AreParts Gives xs now
all_begun Gives xs k now high begun =
    let whole = begun_all Gives xs k [] now high begun in subst (AreParts Gives xs) (sym whole.2) whole.1
