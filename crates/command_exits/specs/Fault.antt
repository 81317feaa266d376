-- The line that reports a refusal.
use Rattle.std.specs.Prelude.{ℕ, ◌++◌, List, [], ◌∷◌, codes, Option}
use Rattle.std.specs.Io.KnownBytes.{Appends}
use Rattle.byte_lines.specs.Device.{AppendsBeginning}

abbrev pub fault_line : List ℕ → List ℕ
fault_line text = codes "fedbundle: " ++ (text ++ 10 ∷ [])

-- a line of that form was written, and nothing else
abbrev pub AppendsFault : Option (List ℕ) → Option (List ℕ) → Type 0
AppendsFault held holds = (text : List ℕ) × Appends held holds (fault_line text)

-- a beginning of such a line was written
abbrev pub BeginsFault : Option (List ℕ) → Option (List ℕ) → Type 0
BeginsFault held holds = (text : List ℕ) × AppendsBeginning held holds (fault_line text)
