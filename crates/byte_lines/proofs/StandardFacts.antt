-- Lines, said of the definitions: a slip in one of these does not check.
use Rattle.std.proofs.Common.{◌≡◌, [], ◌∷◌, codes, refl}
use Rattle.byte_lines.specs.Lines.{lines_of}

-- two lines and a rest
pub two_lines : lines_of (codes "a\n\nb") ≡ record { whole = codes "a" ∷ [] ∷ []; rest = codes "b" }
two_lines = refl

-- there is no rest after a line feed at the end
pub no_rest : lines_of (codes "a\n") ≡ record { whole = codes "a" ∷ []; rest = [] }
no_rest = refl
