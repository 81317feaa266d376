-- What the arguments say of options
use Rattle.std.proofs.Common.{◌≡◌, ℕ, ◌<◌, List, [], ◌∷◌, map, length, Option, None, refl, arith}
use Rattle.command_line.specs.declared.command_name.OptionName.{OptionName}
use Rattle.command_line.specs.declared.command_name.TakenOption.{TakenOption}
use Rattle.command_line.specs.OptionTexts.{said_with}

-- if there are no texts, no option has one
pub nothing_with : {X : Type 0} (f : X → Option (List ℕ)) (options : List TakenOption) (texts : List X) (option : OptionName)
    → length texts < 1 → said_with options (map f texts) option ≡ None
nothing_with f [] texts option low = refl
nothing_with f (o ∷ os) [] option low = refl
nothing_with f (o ∷ os) (t ∷ ts) option low = absurd (omega arith)
