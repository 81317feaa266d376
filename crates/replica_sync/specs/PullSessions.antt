-- A session in which a replica asks about the buckets of a plan, and the answers come in pieces;
-- what is held may change between two of them.
use Rattle.std.specs.Prelude.{◌≡◌, ◌≢◌, ℕ, ◌+◌, ◌<◌, ◌⊎◌, List, [], ◌∷◌, ◌++◌, length, flat_map}
use Rattle.std.specs.Prelude.{◌≤◌, take, drop, Option, None, Some, true, false}
use Rattle.byte_lines.specs.Lines.{HasNoFeed}
use Rattle.fed_config.specs.Configuration.{Configuration}
use Rattle.receipt_core.specs.Acceptance.{Meaning}
use Rattle.replica_core.specs.Absorbing.{entries_of}
use Rattle.replica_core.specs.Session.{GiveMessage}
use Rattle.replica_core.specs.State.{State}
use Rattle.replica_core.specs.declared.error.SyncError.{SyncError}
use Rattle.replica_core.specs.declared.error.SyncError.TheVariants.{Io, NoMemory, Truncated}
use Rattle.replica_texts.specs.Entries.{RefusesEntryLine, placed_line}
use Rattle.replica_texts.specs.Gives.{GiveBegins, RefusesNextEntry, content_lines}
use Rattle.replica_texts.specs.Gives.{next_entry_number}
use Rattle.replica_texts.specs.Messages.{give_text, have_text}
use Rattle.replica_sync.specs.Pulling.{FailsFirst, IsGiveAbout}
use Rattle.replica_texts.specs.Snapshots.{last_of}
use Rattle.replica_texts.specs.declared.entry_line.Wanted.{Wanted}
use Rattle.replica_sync.specs.Pieces.{kept_part}
use Rattle.replica_sync.specs.Plans.{answered_of, bucket_at, asked_count, plan_of}
use Rattle.replica_sync.specs.PulledPieces.{AreAlone, PulledPiece, PulledGive, PulledGives}
use Rattle.replica_sync.specs.PulledPieces.{TakesInTurn}
use Rattle.replica_sync.specs.PulledPieces.{bytes_pulled, haves_asked, haves_pulled}
use Rattle.replica_sync.specs.PulledPieces.{lines_pulled, receipts_pulled}
use Rattle.replica_sync.specs.declared.answer_lines.AnswerLines.{AnswerLines}
use Rattle.replica_sync.specs.declared.piece_pulling.Pulling.{Pulling}

-- ---- the answer that is next

-- No line of it came whole; `rest` came of the first one.
pub record HasNoLineOf (lines : AnswerLines) (before : ℕ) (later : List PulledPiece)
    (rest : List ℕ) : Type 0 where
  pub none : lines.is_begun ≡ false
  pub bytes : bytes_pulled later ≡ rest
  pub takes : TakesInTurn later []
  pub read : lines.read ≡ before

-- Its first line came, and this much of what it has, which is taken; `rest` came of the next line.
pub record HasLinesOf (config : Configuration) (lines : AnswerLines) (before : ℕ)
    (later : List PulledPiece) (rest : List ℕ) : Type 0 where
  pub begun : lines.is_begun ≡ true
  pub count : ℕ
  pub distrusts : ℕ
  pub content : State
  pub begins : GiveBegins (Some (record { config = config; bucket = lines.bucket }))
      (Some (bytes_pulled later)) count distrusts content (Some rest)
  pub takes : TakesInTurn later (entries_of content)
  pub receipts : length content.held + lines.due.receipts ≡ count
  pub records : length content.records + lines.due.records ≡ distrusts
  pub last : lines.last.items ≡ last_of (content_lines content)
  pub read : lines.read ≡ before + 1 + length content.records + length content.held

abbrev pub HasPartOf : Configuration → AnswerLines → ℕ → List PulledPiece → List ℕ → Type 0
HasPartOf config lines before later rest = HasNoLineOf lines before later rest
    ⊎ HasLinesOf config lines before later rest

-- ---- the state of the session

-- These answers came whole, and a part of the next one.
pub record ContinuesPulling (plan : Option (List ℕ)) (answered : ℕ) (lines : AnswerLines)
    (start : Meaning) (came : List PulledPiece) (rest output : List ℕ) : Type 0 where
  pub gives : List PulledGive
  pub later : List PulledPiece
  pub whole : PulledGives plan start came gives later
  pub few : length gives < asked_count plan
  pub number : answered ≡ length gives
  pub bucket : lines.bucket ≡ bucket_at plan (length gives)
  pub below : lines.bucket < 256
  pub part : HasPartOf start.config lines (lines_pulled gives) later rest
  pub asked : output ≡ flat_map have_text (haves_asked plan start gives)

-- All came, and nothing after them is taken.
pub record HasPulledAll (plan : Option (List ℕ)) (lines : AnswerLines) (start : Meaning)
    (came : List PulledPiece) (output : List ℕ) : Type 0 where
  pub gives : List PulledGive
  pub later : List PulledPiece
  pub whole : PulledGives plan start came gives later
  pub all : length gives ≡ asked_count plan
  pub bucket : lines.bucket ≡ 256
  pub none : bytes_pulled later ≡ []
  pub takes : TakesInTurn later []
  pub asked : output ≡ flat_map have_text (haves_pulled plan start 0 gives)

-- ---- why it stops

-- what is wrong with a line, if m is held and this much of its answer was taken
abbrev pub refused_where : Meaning → ℕ → State → Wanted → List ℕ → List ℕ → SyncError → Type 0
refused_where m first content wanted last text e = RefusesEntryLine m
    (placed_line wanted last (next_entry_number first content) text) e

-- A good beginning of the answer, and after it this error.
pub record FailsAmong (m : Meaning) (bucket first : ℕ) (content : State)
    (stream : Option (List ℕ)) (e : SyncError) : Type 0 where
  pub count : ℕ
  pub distrusts : ℕ
  pub further : Option (List ℕ)
  pub after : Option (List ℕ)
  pub begins : GiveBegins (Some (record { config = m.config; bucket = bucket })) stream count
      distrusts content further
  pub cause : RefusesNextEntry (refused_where m first content) count distrusts content further
      after e

-- why the answer about the bucket, whose first line has the number, is not read further than this
-- content, if m is held
abbrev pub StopsAnswer : Meaning → ℕ → ℕ → State → Option (List ℕ) → SyncError → Type 0
StopsAnswer m bucket first content stream e = FailsFirst m.config bucket content stream e
    ⊎ FailsAmong m bucket first content stream e

-- These answers came whole, and then a part of the next one; after it is this error, as soon as a
-- line feed comes. Nothing is taken from the piece on that has it.
pub record StopsInGive (plan : Option (List ℕ)) (start : Meaning) (came : List PulledPiece)
    (output : List ℕ) (e : SyncError) : Type 0 where
  pub gives : List PulledGive
  pub part : List PulledPiece
  pub last : PulledPiece
  pub later : List PulledPiece
  pub whole : PulledGives plan start came gives (part ++ last ∷ later)
  pub few : length gives < asked_count plan
  pub content : State
  pub takes : TakesInTurn part (entries_of content)
  pub quiet : TakesInTurn (last ∷ later) []
  pub cause : (more after : List ℕ) → StopsAnswer last.old (bucket_at plan (length gives))
      (lines_pulled gives + 1) content
      (Some ((bytes_pulled part ++ last.bytes) ++ (more ++ (10 ∷ after)))) e
  pub asked : output ≡ flat_map have_text (haves_asked plan start gives)

-- One more answer came whole, and then memory ran out for the next have.
pub record StopsAsking (plan : Option (List ℕ)) (start : Meaning) (came : List PulledPiece)
    (output : List ℕ) (e : SyncError) : Type 0 where
  pub gives : List PulledGive
  pub part : List PulledPiece
  pub last : PulledPiece
  pub later : List PulledPiece
  pub whole : PulledGives plan start came gives (part ++ last ∷ later)
  pub few : length gives + 1 < asked_count plan
  pub give : GiveMessage
  pub about : IsGiveAbout start.config (bucket_at plan (length gives)) give
  pub behind : List ℕ
  pub text : bytes_pulled part ++ last.bytes ≡ give_text give ++ behind
  pub takes : TakesInTurn (part ++ last ∷ []) (entries_of give.content)
  pub quiet : TakesInTurn later []
  pub cause : e ≡ NoMemory
  pub asked : output ≡ flat_map have_text (haves_asked plan start gives)

-- ---- the piece that has the error

-- These answers and a part of the next one came, and then the piece, of which nothing is taken.
-- After the part is this error if a line feed comes in the piece or after it; and if none does, the
-- stream is cut. It is not a device's.
pub record StopsAt (plan : Option (List ℕ)) (start : Meaning) (came : List PulledPiece)
    (last : PulledPiece) (output : List ℕ) (e : SyncError) : Type 0 where
  pub gives : List PulledGive
  pub part : List PulledPiece
  pub whole : PulledGives plan start came gives part
  pub few : length gives < asked_count plan
  pub content : State
  pub takes : TakesInTurn part (entries_of content)
  pub quiet : last.new ≡ last.old
  pub some : (e ≡ NoMemory) ⊎ (0 < length last.bytes)
  pub cause : (tail : List ℕ) → (HasNoFeed (last.bytes ++ tail) → ⊥)
      → StopsAnswer last.old (bucket_at plan (length gives)) (lines_pulled gives + 1) content
      (Some ((bytes_pulled part ++ last.bytes) ++ tail)) e
  pub cut : (tail : List ℕ) → HasNoFeed (last.bytes ++ tail)
      → StopsAnswer last.old (bucket_at plan (length gives)) (lines_pulled gives + 1) content
      (Some ((bytes_pulled part ++ last.bytes) ++ tail)) Truncated
  pub own : e ≢ Io
  pub asked : output ≡ flat_map have_text (haves_asked plan start gives)

-- After these the piece has the error, or it ends an answer after which memory ran out.
abbrev pub StopsNow : Option (List ℕ) → Meaning → List PulledPiece → PulledPiece → List ℕ
    → SyncError → Type 0
StopsNow plan start came last output e = StopsAt plan start came last output e
    ⊎ StopsAsking plan start (came ++ last ∷ []) output e

-- ---- the machine

-- the beginning of a line that has not ended
abbrev pub kept_answer : Pulling → List ℕ
kept_answer pulling = kept_part pulling.part

-- what is to be written next
abbrev pub due_have : Pulling → List ℕ
due_have pulling = drop pulling.written pulling.have.items

abbrev pub fault_of_pulling : Pulling → Option SyncError
fault_of_pulling pulling = pulling.fault

-- how many receipts were new
abbrev pub count_of_pulling : Pulling → ℕ
count_of_pulling pulling = pulling.lines.taken

-- the last answer was taken to its end
abbrev pub IsOverPulling : Pulling → Type 0
IsOverPulling pulling = pulling.lines.bucket ≡ 256

-- their last one is a line feed
abbrev pub EndsInFeed : List ℕ → Type 0
EndsInFeed bytes = (before : List ℕ) × (bytes ≡ before ++ (10 ∷ []))

-- why no more bytes are taken: those before end a line, or a have is to be written, or the session
-- is over
abbrev pub TakesNoMore : List ℕ → Pulling → Type 0
TakesNoMore bytes pulling = EndsInFeed bytes
    ⊎ ((0 < length (due_have pulling)) ⊎ IsOverPulling pulling)

-- This many bytes of the piece are taken: all of them, or those up to the end of an answer, after
-- which a have is to be written or the session is over.
pub record TakesLines (piece : List ℕ) (new : Pulling) (used : ℕ) : Type 0 where
  pub within : used ≤ length piece
  pub fewer : used < length piece → (0 < length (due_have new)) ⊎ IsOverPulling new

-- This many bytes of the piece are taken: all of them, or no more for such a reason.
pub record TakesBytes (piece : List ℕ) (new : Pulling) (used : ℕ) : Type 0 where
  pub within : used ≤ length piece
  pub fewer : used < length piece → TakesNoMore (take used piece) new

abbrev pub PullsPieces : Option (List ℕ) → Option SyncError → ℕ → AnswerLines → Meaning
    → List PulledPiece → List ℕ → List ℕ → Type 0
PullsPieces plan None answered lines start came rest output = ContinuesPulling plan answered lines
    start came rest output ⊎ HasPulledAll plan lines start came output
PullsPieces plan (Some e) answered lines start came rest output = StopsInGive plan start came output
    e ⊎ StopsAsking plan start came output e

-- The session asks about the buckets of the plan. `start` was held when it began, these came, and
-- this was written: with what is to be written next it is all that was asked.
pub record HasPulledAbout (plan : Option (List ℕ)) (pulling : Pulling) (start : Meaning)
    (came : List PulledPiece) (written : List ℕ) : Type 0 where
  pub plan_is : plan_of pulling.plan ≡ plan
  pub pulls : PullsPieces plan (fault_of_pulling pulling) (answered_of pulling.plan) pulling.lines
      start came (kept_answer pulling) (written ++ due_have pulling)
  pub taken : count_of_pulling pulling ≡ receipts_pulled came
  pub idle : fault_of_pulling pulling ≢ None → due_have pulling ≡ []
  pub ended : IsOverPulling pulling → due_have pulling ≡ []

-- the same for a session that asks about each bucket
abbrev pub HasPulledPieces : Pulling → Meaning → List PulledPiece → List ℕ → Type 0
HasPulledPieces pulling start came written = HasPulledAbout None pulling start came written

-- The last of the pieces has the error.
pub record StopsAmong (before : Pulling) (config : Configuration) (pieces : List PulledPiece)
    (e : SyncError) : Type 0 where
  pub front : List PulledPiece
  pub last : PulledPiece
  pub order : pieces ≡ front ++ last ∷ []
  pub stops : (plan : Option (List ℕ)) (start : Meaning) (came : List PulledPiece)
      (written : List ℕ) → config ≡ start.config
      → HasPulledAbout plan before start came written
      → StopsNow plan start (came ++ front) last written e

-- The lines of the bytes are taken one after another, as by one call for each; between the calls
-- nothing changes.
pub record PullsLines (before : Pulling) (piece : PulledPiece) (after : Pulling) : Type 0 where
  pub pieces : List PulledPiece
  pub whole : bytes_pulled pieces ≡ piece.bytes
  pub alone : AreAlone piece.old pieces piece.new
  pub pulls : (plan : Option (List ℕ)) (start : Meaning) (came : List PulledPiece)
      (written : List ℕ) → piece.old.config ≡ start.config
      → HasPulledAbout plan before start came written
      → HasPulledAbout plan after start (came ++ pieces) written
  pub stops : (e : SyncError) → fault_of_pulling before ≡ None → fault_of_pulling after ≡ Some e
      → StopsAmong before piece.old.config pieces e
