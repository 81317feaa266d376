-- Texts that are put together piece by piece.
use Rattle.std.proofs.Common.{◌≡◌, ◌∙◌, ℕ, List, ◌++◌, ap, append_assoc}

-- Two pieces that were added one after the other were added together.
pub glue : (a b c p q : List ℕ) → b ≡ a ++ p → c ≡ b ++ q → c ≡ a ++ (p ++ q)
glue a b c p q first second = second ∙ ap (λ t. t ++ q) first ∙ append_assoc a p q
