-- How a session that pulls continues over a source and a sink.
use Rattle.std.specs.Prelude.{◌≡◌, List, ℕ, Option, None}
use Rattle.std.specs.Io.KnownBytes.{Appends, Consumes}
use Rattle.receipt_core.specs.Acceptance.{Meaning}
use Rattle.replica_core.specs.declared.error.SyncError.{SyncError}
use Rattle.replica_sync.specs.SessionRun.{SessionRun}
use Rattle.replica_sync.specs.Pulling.{HasGained, PullsUpTo}
use Rattle.replica_sync.specs.PulledPieces.{AreAlone, PulledPiece, bytes_pulled}
use Rattle.replica_sync.specs.PullSessions.{HasPulledPieces, count_of_pulling, fault_of_pulling}
use Rattle.replica_sync.specs.declared.piece_pulling.Pulling.{Pulling}

-- The session was given the bytes before `left`, and what it said was written.
pub record Driven (start : Meaning) (run : SessionRun) (pulling : Pulling) (held : Meaning)
    (left : Option (List ℕ)) : Type 0 where
  pub came : List PulledPiece
  pub written : List ℕ
  pub sound : fault_of_pulling pulling ≡ None
  pub own : held.config ≡ start.config
  pub pulls : HasPulledPieces pulling start came written
  pub alone : AreAlone start came held
  pub text : Consumes run.source left (bytes_pulled came)
  pub output : Appends run.before run.after written

-- It ends with this error.
abbrev pub StopsDriven : SessionRun → Meaning → Meaning → Pulling → SyncError → Type 0
StopsDriven run start held pulling e = PullsUpTo run start held e
    × HasGained start held (count_of_pulling pulling)
