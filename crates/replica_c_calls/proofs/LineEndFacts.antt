-- A stream with a line has a byte to come.
use Rattle.std.proofs.Common.{ℕ, ◌<◌, List, [], ◌∷◌, ◌++◌, length, arith}
use Rattle.std.specs.Prelude.{Option}
use Rattle.byte_lines.specs.Lines.{HasLine, HasMore}
use Rattle.byte_lines.proofs.StreamFacts.{HasMore-text}

-- the text of a line with its line feed has a byte
ended_some : (text : List ℕ) → 0 < length (text ++ (10 ∷ []))
ended_some [] = omega arith
ended_some (b ∷ text) = omega arith

pub more_of_line : (a b : Option (List ℕ)) (text : List ℕ) → HasLine a b text → HasMore a
more_of_line a b text line = HasMore-text a b (text ++ (10 ∷ [])) (ended_some text) line.1
