-- The lines that report a number.
use Rattle.std.specs.Prelude.{ℕ, ◌++◌, List, codes, decimal}

abbrev pub counted : List ℕ → ℕ → List ℕ
counted label n = label ++ (decimal n ++ codes "\n")
