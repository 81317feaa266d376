-- The error of a line that is refused before its end was read.
use Rattle.std.specs.Prelude.{◌≡◌, ◌⊎◌, List, ℕ, Option}
use Rattle.byte_lines.specs.Lines.{HasLine, HasNoLine}
use Rattle.replica_core.specs.declared.error.SyncError.{SyncError}
use Rattle.replica_core.specs.declared.error.SyncError.TheVariants.{Truncated}

-- what a line that is refused for this ends with: this if the line ends, and else that it does not
abbrev pub IsLineError : SyncError → Option (List ℕ) → SyncError → Type 0
IsLineError why stream e = ((e ≡ why)
    × ((text : List ℕ) × (after : Option (List ℕ)) × HasLine stream after text))
    ⊎ ((e ≡ Truncated) × HasNoLine stream)
