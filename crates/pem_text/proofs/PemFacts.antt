-- Pieces of a text, written one after another.
use Rattle.std.proofs.Common.{◌≡◌, ℕ, List, ◌++◌, ap, ◌∙◌, append_assoc}

-- three pieces, one after another, are one
pub three_pieces : (o x y z first second third : List ℕ) → first ≡ o ++ x → second ≡ first ++ y → third ≡ second ++ z
    → third ≡ o ++ (x ++ (y ++ z))
three_pieces o x y z first second third e f g =
    g ∙ ap (λ t. t ++ z) f ∙ append_assoc first y z ∙ ap (λ t. t ++ (y ++ z)) e ∙ append_assoc o x (y ++ z)
