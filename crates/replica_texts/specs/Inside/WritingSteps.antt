-- How a text is written, part by part.
use Rattle.std.specs.Prelude.{◌++◌, List, Option, ℕ, ◌≡◌}
use Rattle.std.specs.Io.KnownBytes.{Appends}

-- All of the whole text but the rest was written.
pub record WrittenSoFar (old now : Option (List ℕ)) (rest whole : List ℕ) : Type 0 where
  pub done : List ℕ
  pub appended : Appends old now done
  pub parts : whole ≡ done ++ rest
