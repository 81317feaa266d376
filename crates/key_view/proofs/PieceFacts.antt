-- Pieces of a text, written one after another.
use Rattle.std.proofs.Common.{◌≡◌, ℕ, List, ◌++◌}
use Rattle.json_text.proofs.PartFacts.{one_text}

pub three_pieces : (o a b c s t u : List ℕ) → s ≡ o ++ a → t ≡ s ++ b → u ≡ t ++ c → u ≡ o ++ (a ++ (b ++ c))
three_pieces o a b c s t u e f g = one_text o a (b ++ c) s u e (one_text s b c t u f g)

pub four_pieces : (o a b c d s t u v : List ℕ) → s ≡ o ++ a → t ≡ s ++ b → u ≡ t ++ c → v ≡ u ++ d → v ≡ o ++ (a ++ (b ++ (c ++ d)))
four_pieces o a b c d s t u v e f g h = one_text o a (b ++ (c ++ d)) s v e (three_pieces s b c d t u v f g h)

pub seven_pieces : (o a b c d x y z s t u v p q r : List ℕ) → s ≡ o ++ a → t ≡ s ++ b → u ≡ t ++ c → v ≡ u ++ d → p ≡ v ++ x → q ≡ p ++ y → r ≡ q ++ z
    → r ≡ o ++ (a ++ (b ++ (c ++ (d ++ (x ++ (y ++ z))))))
seven_pieces o a b c d x y z s t u v p q r e f g h i j k =
    one_text o a (b ++ (c ++ (d ++ (x ++ (y ++ z))))) s r e
    (one_text s b (c ++ (d ++ (x ++ (y ++ z)))) t r f
    (one_text t c (d ++ (x ++ (y ++ z))) u r g (four_pieces u d x y z v p q r h i j k)))
