-- A whole session over devices: one in which a replica asks for sums, or is asked.
use Rattle.std.specs.Prelude.{◌≡◌, ℕ, ◌+◌, ◌==◌, ◌⊎◌, List, [], ◌++◌, Option, None, Some}
use Rattle.std.specs.Prelude.{Result, Ok, Err}
use Rattle.std.specs.List.{count_by}
use Rattle.std.specs.Io.KnownBytes.{Appends, Consumes, IsAtEnd}
use Rattle.receipt_core.specs.Acceptance.{Meaning}
use Rattle.replica_core.specs.declared.error.SyncError.{SyncError}
use Rattle.replica_core.specs.declared.error.SyncError.TheVariants.{NoMemory, Truncated}
use Rattle.replica_core.specs.declared.error.SyncError.TheVariants.{Io}
use Rattle.replica_sync.specs.ServedPieces.{Came, IsStill, bytes_came}
use Rattle.replica_sync.specs.PulledPieces.{AreAlone, PulledPiece, bytes_pulled}
use Rattle.bucket_sums.specs.Lines.{part_count}
use Rattle.bucket_sums.specs.Quiet.{HasServedQuietly, IsBetween, due_quiet, fault_of_quiet}
use Rattle.bucket_sums.specs.QuietPulls.{HasPulledQuietly, IsOverQuietly, due_asked}
use Rattle.bucket_sums.specs.QuietPulls.{fault_of_asked}
use Rattle.bucket_sums.specs.declared.quiet_pulling.QuietPulling.{QuietPulling}
use Rattle.bucket_sums.specs.declared.quiet_serving.Opening.{Opening}
use Rattle.bucket_sums.specs.declared.quiet_serving.Opening.TheVariants.{FirstLine, Question, Plain}
use Rattle.bucket_sums.specs.declared.quiet_serving.Opening.TheVariants.{Answered}
use Rattle.bucket_sums.specs.declared.quiet_serving.QuietServing.{QuietServing}

-- ---- a session in which a replica asks

-- What is held, the bytes that still come from the source, and those that the sink has, if the
-- devices report them.
pub record SessionState : Type 0 where
  pub held : Meaning
  pub source : Option (List ℕ)
  pub sink : Option (List ℕ)

abbrev pub session_state : Meaning → Option (List ℕ) → Option (List ℕ) → SessionState
session_state held source sink = record { held = held; source = source; sink = sink }

-- The session continues: these pieces come from the source, nothing else changes what is held, and
-- this is written to the sink.
pub record RunsQuietly (before : QuietPulling) (old new : SessionState)
    (after : QuietPulling) : Type 0 where
  pub pieces : List PulledPiece
  pub written : List ℕ
  pub read : Consumes old.source new.source (bytes_pulled pieces)
  pub wrote : Appends old.sink new.sink written
  pub alone : AreAlone old.held pieces new.held
  pub own : new.held.config ≡ old.held.config
  pub pulls : (start : Meaning) (came : List PulledPiece) (said : List ℕ)
      → old.held.config ≡ start.config → HasPulledQuietly before start came said
      → HasPulledQuietly after start (came ++ pieces) (said ++ written)

-- The same if the source does not report what still comes, since it failed, or what was read ahead
-- of the session is lost.
abbrev pub RunsToEnd : QuietPulling → SessionState → SessionState → QuietPulling → Type 0
RunsToEnd before old new after = (rest : Option (List ℕ))
    × RunsQuietly before old (session_state new.held rest new.sink) after

-- all was asked and answered
abbrev pub IsQuietlyDone : QuietPulling → Type 0
IsQuietlyDone p = (fault_of_asked p ≡ None) × (IsOverQuietly p × (due_asked p ≡ []))

-- the error of the session; or the source is at its end too early, or memory ran out
abbrev pub StopsRun : QuietPulling → SyncError → Type 0
StopsRun p e = (fault_of_asked p ≡ Some e) ⊎ ((e ≡ Truncated) ⊎ (e ≡ NoMemory))

-- ---- a session in which it is asked

-- how many lines end in these bytes
abbrev pub feeds_in : List ℕ → ℕ
feeds_in bytes = count_by (λ b. b == 10) bytes

-- how many lines are a question's, if it is answered
abbrev pub lines_of_question : Opening → ℕ
lines_of_question (FirstLine part) = 0
lines_of_question (Question question) = 0
lines_of_question Plain = 0
lines_of_question Answered = part_count + 1

abbrev pub lines_asked : QuietServing → ℕ
lines_asked s = lines_of_question s.opening

-- The session was served from its beginning on: these pieces came from the source while the same
-- was held, and this was written to the sink.
pub record HasServedRun (old new : SessionState) (came : List Came) (session : QuietServing)
    : Type 0 where
  pub written : List ℕ
  pub still : IsStill old.held came
  pub read : Consumes old.source new.source (bytes_came came)
  pub wrote : Appends old.sink new.sink written
  pub serves : HasServedQuietly old.held.config session came written

-- The source ends between two haves, and all that is due is written. The lines that came are the
-- haves that were answered, this many, and those of the question.
pub record IsServedWhole (session : QuietServing) (came : List Came) (rest : Option (List ℕ))
    (count : ℕ) : Type 0 where
  pub sound : fault_of_quiet session ≡ None
  pub between : IsBetween session
  pub idle : due_quiet session ≡ []
  pub all : IsAtEnd rest
  pub number : count + lines_asked session ≡ feeds_in (bytes_came came)

-- The session found this error, and all that is due is written.
abbrev pub FindsFault : QuietServing → SyncError → Type 0
FindsFault session e = (fault_of_quiet session ≡ Some e) × (due_quiet session ≡ [])

-- The source ends within the question or a have, and all that is due is written.
pub record IsCutShort (session : QuietServing) (rest : Option (List ℕ)) (e : SyncError)
    : Type 0 where
  pub sound : fault_of_quiet session ≡ None
  pub within : IsBetween session → ⊥
  pub idle : due_quiet session ≡ []
  pub all : IsAtEnd rest
  pub is : e ≡ Truncated

-- how a session ends: well; or at its error, or cut short, or without memory before anything came,
-- or since a device failed
abbrev pub EndsServing : Type 0 → QuietServing → List Came → Option (List ℕ) → Result ℕ SyncError
    → Type 0
EndsServing Failed session came rest (Ok count) = IsServedWhole session came rest count
EndsServing Failed session came rest (Err e) = FindsFault session e
    ⊎ (IsCutShort session rest e ⊎ (((e ≡ NoMemory) × (came ≡ [])) ⊎ ((e ≡ Io) × Failed)))

-- A whole session was served. What was read ahead of it is lost if it ends with an error.
pub record ServesToEnd (Failed : Type 0) (old : SessionState) (sink : Option (List ℕ))
    (result : Result ℕ SyncError) : Type 0 where
  pub session : QuietServing
  pub came : List Came
  pub rest : Option (List ℕ)
  pub run : HasServedRun old (session_state old.held rest sink) came session
  pub ends : EndsServing Failed session came rest result
