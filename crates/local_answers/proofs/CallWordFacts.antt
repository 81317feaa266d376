-- The arguments for the options of a request.
use Rattle.std.proofs.Common.{◌≡◌, ℕ, ◌<◌, List, [], ◌∷◌, map, length, Option, refl, arith}
use Rattle.command_line.specs.declared.command_name.TakenOption.{TakenOption}
use Rattle.local_answers.specs.RequestWords.{words_with}

-- if there are no texts there are no arguments
pub no_words_with : {X : Type 0} (f : X → Option (List ℕ)) (options : List TakenOption) (texts : List X) → length texts < 1
    → words_with options (map f texts) ≡ []
no_words_with f [] texts low = refl
no_words_with f (o ∷ os) [] low = refl
no_words_with f (o ∷ os) (t ∷ ts) low = absurd (omega arith)
