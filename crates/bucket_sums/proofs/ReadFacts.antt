-- Several lines, taken by one call.
use Rattle.std.proofs.Common.{◌≡◌, ◌∙◌, ℕ, ◌+◌, ◌≤◌, List, ◌++◌, length, take, ap, append_assoc, take-append-drop}
use Rattle.std.proofs.lemmas.List.{take_rest}
use Rattle.replica_sync.proofs.PullLinesFacts.{rest_of, take_both}

-- Bytes of what is left of the piece come after those before.
pub taken_on : (came piece : List ℕ) (used more : ℕ) → used ≤ length piece
    → (came ++ take used piece) ++ take more (rest_of piece used) ≡ came ++ take (used + more) piece
taken_on came piece used more few =
    append_assoc came (take used piece) (take more (rest_of piece used))
    ∙ ap (λ (l : List ℕ). came ++ l) (ap (λ (l : List ℕ). take used piece ++ take more l) (take_rest piece used) ∙ take_both used more piece few)

-- All of what is left comes after those before.
pub taken_all : (came piece : List ℕ) (used : ℕ) → (came ++ take used piece) ++ rest_of piece used ≡ came ++ piece
taken_all came piece used =
    append_assoc came (take used piece) (rest_of piece used)
    ∙ ap (λ (l : List ℕ). came ++ l) (ap (λ (l : List ℕ). take used piece ++ l) (take_rest piece used) ∙ take-append-drop used piece)
