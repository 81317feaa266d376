-- What a session does to its devices, in the terms that sessions of both sides share.
use Rattle.std.specs.Prelude.{◌≡◌, ℕ, List, [], Option, Some}
use Rattle.std.specs.Io.KnownBytes.{Appends}
use Rattle.byte_lines.specs.Device.{AppendsBeginning}
use Rattle.replica_core.specs.declared.error.SyncError.{SyncError}
use Rattle.replica_core.specs.declared.error.SyncError.TheVariants.{Io, NoMemory}

-- The bytes that the source has when the session begins, and those that the sink holds before and
-- after it, if the devices report them.
pub record SessionRun : Type 0 where
  pub source : Option (List ℕ)
  pub before : Option (List ℕ)
  pub after : Option (List ℕ)

abbrev pub session_run : Option (List ℕ) → Option (List ℕ) → Option (List ℕ) → SessionRun
session_run source before after = record { source = source; before = before; after = after }

-- the session that has these bytes to read, and writes those on an empty sink
abbrev pub known_run : List ℕ → List ℕ → SessionRun
known_run read written = session_run (Some read) (Some []) (Some written)

-- Both have the same bytes to read, and the devices report them.
abbrev pub ReadSame : SessionRun → SessionRun → Type 0
ReadSame one other = (bytes : List ℕ) × (one.source ≡ Some bytes) × (other.source ≡ Some bytes)

-- all that was due is written; if the device failed or memory ran out, a beginning of it
abbrev pub IsWritten : SyncError → Option (List ℕ) → Option (List ℕ) → List ℕ → Type 0
IsWritten Io old new text = AppendsBeginning old new text
IsWritten NoMemory old new text = AppendsBeginning old new text
IsWritten _ old new text = Appends old new text
