-- Pieces of a text, written one after another.
use Rattle.std.proofs.Common.{◌≡◌, ℕ, List, ◌++◌, ap, ◌∙◌}
use Rattle.std.proofs.Common.{append_assoc}

-- two pieces, one after the other, are one
pub two : (o x y first second : List ℕ) → first ≡ o ++ x → second ≡ first ++ y → second ≡ o ++ (x ++ y)
two o x y first second e f = f ∙ ap (λ t. t ++ y) e ∙ append_assoc o x y
