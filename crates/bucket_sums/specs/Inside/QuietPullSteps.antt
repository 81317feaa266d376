-- What one call does to a session that asks for sums.
use Rattle.std.specs.Prelude.{◌≡◌, ℕ, List, ◌++◌, Option, None}
use Rattle.receipt_core.specs.Acceptance.{Meaning}
use Rattle.replica_core.specs.declared.error.SyncError.{SyncError}
use Rattle.replica_sync.specs.PulledPieces.{AreAlone, PulledPiece, bytes_pulled}
use Rattle.bucket_sums.specs.QuietPulls.{PullsFrom, due_question}
use Rattle.bucket_sums.specs.declared.quiet_pulling.QuietPulling.{QuietPulling}

-- The bytes are taken by a session without an error, and this error is found, or none.
pub record StepsQuietly (before : QuietPulling) (piece : PulledPiece) (fault : Option SyncError)
    (after : QuietPulling) : Type 0 where
  pub pieces : List PulledPiece
  pub whole : bytes_pulled pieces ≡ piece.bytes
  pub alone : AreAlone piece.old pieces piece.new
  pub pulls : (start : Meaning) (came : List PulledPiece) (written : List ℕ)
      → piece.old.config ≡ start.config
      → PullsFrom before.stage None (due_question before) start came written
      → PullsFrom after.stage fault (due_question after) start (came ++ pieces) written
