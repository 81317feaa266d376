-- What a call that writes does to a sink.
use Rattle.std.specs.Prelude.{ℕ, List, Option, Result, OnOk, IfErr}
use Rattle.std.specs.Io.KnownBytes.{Appends}
use Rattle.byte_lines.specs.Device.{AppendsBeginning}
use Rattle.replica_core.specs.declared.error.SyncError.{SyncError}
use Rattle.replica_core.specs.declared.error.SyncError.TheVariants.{Io, NoMemory}

-- The sink failed, or memory ran out.
abbrev pub IsOfWriting : SyncError → Type 0
IsOfWriting Io = Unit {0}
IsOfWriting NoMemory = Unit {0}
IsOfWriting _ = ⊥

-- All of the text was written, or a beginning of it.
pub record Writes {T : Type 0} (old new : Option (List ℕ)) (text : List ℕ)
    (result : Result T SyncError) : Type 0 where
  pub all : OnOk result (Appends old new text)
  pub begun : AppendsBeginning old new text
  pub cause : IfErr result IsOfWriting
