-- How the first line of a connection is taken.
use Rattle.std.specs.Prelude.{◌≡◌, ℕ, ◌⊎◌, List, ◌++◌}
use Rattle.fed_config.specs.Configuration.{Configuration}
use Rattle.replica_core.specs.declared.error.SyncError.{SyncError}
use Rattle.replica_core.specs.declared.error.SyncError.TheVariants.{NoMemory}
use Rattle.replica_texts.specs.SoleLines.{RefusesSoleHeader, written_header}
use Rattle.replica_sync.specs.Pieces.{EndsLine, Continues, piece_run}
use Rattle.bucket_sums.specs.Questions.{IsPlain, longest_line}
use Rattle.bucket_sums.specs.declared.first_line.FirstLine.{FirstLine}
use Rattle.bucket_sums.specs.declared.first_line.FirstLine.TheVariants.{Within, Sums, Haves}

-- what the line begins, if `old` was kept of it
abbrev pub BeginsAs : Configuration → List ℕ → List ℕ → List ℕ → FirstLine → Type 0
BeginsAs config old piece new Within = Continues (piece_run longest_line old piece) new
BeginsAs config old piece new (Sums used) =
    EndsLine (piece_run longest_line old piece) used (written_header config)
BeginsAs config old piece new Haves = IsPlain config (old ++ piece)

-- The line ended, and is not that of a question of this configuration.
pub record EndsOtherwise (config : Configuration) (old piece : List ℕ)
    (e : SyncError) : Type 0 where
  pub used : ℕ
  pub text : List ℕ
  pub ends : EndsLine (piece_run longest_line old piece) used text
  pub cause : RefusesSoleHeader config text e

-- why it is not taken
abbrev pub RefusesOpeningLine : Configuration → List ℕ → List ℕ → SyncError → Type 0
RefusesOpeningLine config old piece e = (e ≡ NoMemory) ⊎ EndsOtherwise config old piece e
