-- A session in which a replica asks for sums, and then about the buckets that differ.
use Rattle.std.specs.Prelude.{◌≡◌, ℕ, ◌⊎◌, Bool, List, [], ◌∷◌, ◌++◌, length, drop}
use Rattle.std.specs.Prelude.{Option, None, Some}
use Rattle.receipt_core.specs.Acceptance.{Meaning}
use Rattle.replica_core.specs.Session.{state_of}
use Rattle.replica_core.specs.declared.error.SyncError.{SyncError}
use Rattle.replica_core.specs.declared.error.SyncError.TheVariants.{NoMemory}
use Rattle.replica_sync.specs.PulledPieces.{AreAlone, PulledPiece, TakesInTurn, bytes_pulled}
use Rattle.replica_sync.specs.PullSessions.{HasPulledAbout, HasPulledPieces, IsOverPulling}
use Rattle.replica_sync.specs.PullSessions.{count_of_pulling, due_have, fault_of_pulling}
use Rattle.replica_sync.specs.declared.piece_pulling.Pulling.{Pulling}
use Rattle.bucket_sums.specs.Asking.{HasTakenAnswer, IsLineOfMarks, fault_of_answer}
use Rattle.bucket_sums.specs.Asking.{marks_answered}
use Rattle.bucket_sums.specs.Lines.{part_count}
use Rattle.bucket_sums.specs.Questions.{StopsAtLine, sums_answer, sums_question}
use Rattle.bucket_sums.specs.Quiet.{first_due}
use Rattle.bucket_sums.specs.Sessions.{buckets_asked}
use Rattle.bucket_sums.specs.Sums.{sums_of}
use Rattle.bucket_sums.specs.declared.quiet_pulling.Stage.{Stage}
use Rattle.bucket_sums.specs.declared.quiet_pulling.Stage.TheVariants.{Asking, Pulling as PullsNow}
use Rattle.bucket_sums.specs.declared.quiet_pulling.QuietPulling.{QuietPulling}
use Rattle.bucket_sums.specs.declared.sums_asking.SumsAsking.{SumsAsking}

-- ---- what is to be written, and what was taken

-- what is left of the question
abbrev pub due_question : QuietPulling → List ℕ
due_question p = drop p.written p.question.items

abbrev pub due_of_stage : Stage → List ℕ
due_of_stage (Asking asking) = []
due_of_stage (PullsNow pulling) = due_have pulling

-- what is to be written next
abbrev pub due_asked : QuietPulling → List ℕ
due_asked p = first_due (due_question p) (due_of_stage p.stage)

abbrev pub fault_of_asked : QuietPulling → Option SyncError
fault_of_asked p = p.fault

abbrev pub count_of_stage : Stage → ℕ
count_of_stage (Asking asking) = 0
count_of_stage (PullsNow pulling) = count_of_pulling pulling

-- how many receipts were new
abbrev pub count_of_quiet : QuietPulling → ℕ
count_of_quiet p = count_of_stage p.stage

abbrev pub IsStageOver : Stage → Type 0
IsStageOver (Asking asking) = ⊥
IsStageOver (PullsNow pulling) = IsOverPulling pulling

-- all was answered
abbrev pub IsOverQuietly : QuietPulling → Type 0
IsOverQuietly p = IsStageOver p.stage

-- sums were asked, and no byte of the answer came
abbrev pub IsStageUnanswered : Stage → List PulledPiece → Type 0
IsStageUnanswered (Asking asking) came = bytes_pulled came ≡ []
IsStageUnanswered (PullsNow pulling) came = ⊥

abbrev pub IsUnanswered : QuietPulling → List PulledPiece → Type 0
IsUnanswered p came = IsStageUnanswered p.stage came

-- ---- the answer to the question

-- The question is written or being written, and a part of its answer came.
pub record IsAskingSums (asking : SumsAsking) (due : List ℕ) (start : Meaning)
    (came : List PulledPiece) (written : List ℕ) : Type 0 where
  pub asks : written ++ due ≡ sums_question start.config (sums_of (state_of start))
  pub takes : HasTakenAnswer start.config asking (bytes_pulled came)
  pub sound : fault_of_answer asking ≡ None
  pub waits : marks_answered asking ≡ None
  pub quiet : TakesInTurn came []

-- why the answer is not taken
abbrev pub RefusesMarks : Meaning → List PulledPiece → SyncError → Type 0
RefusesMarks start came e = (e ≡ NoMemory)
    ⊎ StopsAtLine IsLineOfMarks start.config (bytes_pulled came) e

-- An error came in the answer.
pub record StopsMarks (due : List ℕ) (start : Meaning) (came : List PulledPiece)
    (written : List ℕ) (e : SyncError) : Type 0 where
  pub asks : written ++ due ≡ sums_question start.config (sums_of (state_of start))
  pub cause : RefusesMarks start came e
  pub quiet : TakesInTurn came []

-- ---- what follows it

-- This is held after the last of the pieces.
pub record EndsHolding (came : List PulledPiece) (held : Meaning) : Type 0 where
  pub before : List PulledPiece
  pub last : PulledPiece
  pub order : came ≡ before ++ last ∷ []
  pub was : last.new ≡ held

-- The marks came, and the buckets that differ are asked about, from what is held when the last of
-- these pieces came, whatever changed before that.
pub record AsksMarked (pulling : Pulling) (start : Meaning) (came : List PulledPiece)
    (written : List ℕ) : Type 0 where
  pub asked : List PulledPiece
  pub later : List PulledPiece
  pub order : came ≡ asked ++ later
  pub quiet : TakesInTurn asked []
  pub marks : List Bool
  pub all : length marks ≡ part_count
  pub bytes : bytes_pulled asked ≡ sums_answer start.config marks
  pub then : Meaning
  pub own : then.config ≡ start.config
  pub was : EndsHolding asked then
  pub after : List ℕ
  pub parts : written ≡ sums_question start.config (sums_of (state_of start)) ++ after
  pub pulls : HasPulledAbout (Some (buckets_asked marks)) pulling then later after

-- no sums were asked, or they are answered
abbrev pub AsksAbout : Pulling → Meaning → List PulledPiece → List ℕ → Type 0
AsksAbout pulling start came written = HasPulledPieces pulling start came written
    ⊎ AsksMarked pulling start came written

-- ---- the machine

abbrev pub PullsFrom : Stage → Option SyncError → List ℕ → Meaning → List PulledPiece → List ℕ
    → Type 0
PullsFrom (Asking asking) None due start came written = IsAskingSums asking due start came written
PullsFrom (Asking asking) (Some e) due start came written = StopsMarks due start came written e
PullsFrom (PullsNow pulling) fault due start came written = (fault ≡ fault_of_pulling pulling)
    × ((due ≡ []) × AsksAbout pulling start came written)

-- `start` was held when the session began, these came, and this was written: with what is to be
-- written next it is all that was asked.
abbrev pub HasPulledQuietly : QuietPulling → Meaning → List PulledPiece → List ℕ → Type 0
HasPulledQuietly p start came written = PullsFrom p.stage (fault_of_asked p) (due_question p) start
    came written

-- The bytes are taken, as by one call for each piece, between which nothing changes.
pub record PullsQuietly (before : QuietPulling) (piece : PulledPiece)
    (after : QuietPulling) : Type 0 where
  pub pieces : List PulledPiece
  pub whole : bytes_pulled pieces ≡ piece.bytes
  pub alone : AreAlone piece.old pieces piece.new
  pub pulls : (start : Meaning) (came : List PulledPiece) (written : List ℕ)
      → piece.old.config ≡ start.config → HasPulledQuietly before start came written
      → HasPulledQuietly after start (came ++ pieces) written
