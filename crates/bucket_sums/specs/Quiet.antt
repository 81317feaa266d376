-- A connection that is served: a question of sums or none, and then haves.
use Rattle.std.specs.Prelude.{◌≡◌, ℕ, ◌⊎◌, Bool, true, List, [], ◌∷◌, ◌++◌, length, take, drop}
use Rattle.std.specs.Prelude.{Option, None, Some, Result, Ok, Err, ⊤, slice_index_or}
use Rattle.std.specs.List.{AllByRecursion}
use Rattle.fed_config.specs.Configuration.{Configuration}
use Rattle.receipt_core.specs.Acceptance.{Meaning}
use Rattle.replica_core.specs.Session.{state_of}
use Rattle.replica_core.specs.declared.error.SyncError.{SyncError}
use Rattle.replica_core.specs.declared.error.SyncError.TheVariants.{NoMemory}
use Rattle.replica_texts.specs.Snapshots.{text_of_lines}
use Rattle.replica_texts.specs.SoleLines.{written_header}
use Rattle.byte_lines.specs.Lines.{HasNoFeed}
use Rattle.replica_sync.specs.Pieces.{kept_part}
use Rattle.replica_sync.specs.PullSessions.{EndsInFeed}
use Rattle.replica_sync.specs.ServedPieces.{Came, HasServedPieces, bytes_came, due_give}
use Rattle.replica_sync.specs.ServedPieces.{fault_of_serving, kept_have, records_answered}
use Rattle.replica_sync.specs.declared.line_part.LinePart.{LinePart}
use Rattle.replica_sync.specs.declared.answer_records.AnswerRecords.TheVariants.{All}
use Rattle.replica_sync.specs.declared.piece_serving.Serving.{Serving}
use Rattle.bucket_sums.specs.Lines.{IsSumLine, differences, part_count}
use Rattle.bucket_sums.specs.Questions.{IsPlain, StopsAtLine, sums_answer}
use Rattle.bucket_sums.specs.RecordsOnce.{has_feed, records_due, shown_once}
use Rattle.bucket_sums.specs.Serving.{HasTakenQuestion, fault_of_question, own_sums_of}
use Rattle.bucket_sums.specs.Sums.{sums_of}
use Rattle.bucket_sums.specs.declared.quiet_serving.Opening.{Opening}
use Rattle.bucket_sums.specs.declared.quiet_serving.Opening.TheVariants.{FirstLine, Question, Plain}
use Rattle.bucket_sums.specs.declared.quiet_serving.Opening.TheVariants.{Answered}
use Rattle.bucket_sums.specs.declared.quiet_serving.QuietServing.{QuietServing}
use Rattle.bucket_sums.specs.declared.sums_serving.SumsServing.{SumsServing}

-- ---- what is to be written

-- what is left of the answer to the question
abbrev pub due_marks : QuietServing → List ℕ
due_marks s = drop s.written s.marks.items

-- this, or what follows if nothing is left
abbrev pub first_due : List ℕ → List ℕ → List ℕ
first_due [] later = later
first_due (b ∷ bytes) later = b ∷ bytes

-- what is to be written next
abbrev pub due_quiet : QuietServing → List ℕ
due_quiet s = first_due (due_marks s) (due_give s.haves)

-- the question is not being asked
abbrev pub HasNoQuestion : Opening → Type 0
HasNoQuestion (FirstLine part) = ⊤
HasNoQuestion (Question question) = ⊥
HasNoQuestion Plain = ⊤
HasNoQuestion Answered = ⊤

-- neither a question nor a have is begun
abbrev pub IsBetween : QuietServing → Type 0
IsBetween s = HasNoQuestion s.opening × (kept_have s.haves ≡ [])

abbrev pub fault_of_quiet : QuietServing → Option SyncError
fault_of_quiet s = s.fault

-- the error that a call found
abbrev pub fault_in : Result ℕ SyncError → Option SyncError
fault_in (Ok used) = None
fault_in (Err e) = Some e

-- ---- the question

-- The first line has not ended, and may be that of a have.
pub record IsOpening (part : LinePart) (haves : Serving) (due : List ℕ) (came : List Came)
    (written : List ℕ) : Type 0 where
  pub serves : HasServedPieces haves came written
  pub sound : fault_of_serving haves ≡ None
  pub idle : due_give haves ≡ []
  pub all : records_answered haves ≡ All
  pub bytes : bytes_came came ≡ kept_part part
  pub none : written ≡ []
  pub none_due : due ≡ []

-- The first line of what came ended while this was held: a piece that was given then ends in the
-- first line feed.
pub record EndsFirstLine (came : List Came) (held : Meaning) : Type 0 where
  pub before : List Came
  pub last : Came
  pub later : List Came
  pub order : came ≡ before ++ last ∷ later
  pub none : HasNoFeed (bytes_came before)
  pub feed : EndsInFeed last.bytes
  pub was : last.held ≡ held

-- The question is being asked. Its sums are compared with those of what was held when its first
-- line ended.
pub record IsAsking (config : Configuration) (question : SumsServing) (haves : Serving)
    (due : List ℕ) (came : List Came) (written : List ℕ) : Type 0 where
  pub held : Meaning
  pub was : EndsFirstLine came held
  pub sums : own_sums_of question ≡ sums_of (state_of held)
  pub takes : HasTakenQuestion config question (bytes_came came)
  pub sound : fault_of_question question ≡ None
  pub serves : HasServedPieces haves [] []
  pub ready : fault_of_serving haves ≡ None
  pub idle : due_give haves ≡ []
  pub all : records_answered haves ≡ All
  pub none : written ≡ []
  pub none_due : due ≡ []

-- why what came is not taken before haves come
abbrev pub RefusesBeginning : Configuration → Serving → List Came → List ℕ → SyncError → Type 0
RefusesBeginning config haves came written e = (e ≡ NoMemory)
    ⊎ (StopsAtLine IsSumLine config (bytes_came came) e
    ⊎ ((fault_of_serving haves ≡ Some e) × HasServedPieces haves came written))

-- An error came before the haves, and nothing is written.
pub record StopsOpening (config : Configuration) (haves : Serving) (due : List ℕ) (came : List Came)
    (written : List ℕ) (e : SyncError) : Type 0 where
  pub cause : RefusesBeginning config haves came written e
  pub idle : due_give haves ≡ []
  pub none : written ≡ []
  pub none_due : due ≡ []

-- ---- what follows it

-- What came first is this question, and it is answered by its marks against what was held when its
-- first line ended, whatever changed before or after that. The first mark says whether the records
-- differ.
pub record AnswersQuestion (config : Configuration) (asked : List Came) (said : List ℕ)
    (differ : Bool) : Type 0 where
  pub held : Meaning
  pub was : EndsFirstLine asked held
  pub lines : List (List ℕ)
  pub each : AllByRecursion IsSumLine lines
  pub all : length lines ≡ part_count
  pub bytes : bytes_came asked ≡ text_of_lines (written_header config ∷ lines)
  pub said_is : said ≡ sums_answer config (differences lines (sums_of (state_of held)))
  pub records : differ ≡ slice_index_or (differences lines (sums_of (state_of held))) 0 true

-- No question came: what was given with one of the pieces showed that the first line is another
-- one.
pub record OpensPlainly (config : Configuration) (came : List Came) : Type 0 where
  pub before : List Came
  pub shows : Came
  pub others : List Came
  pub order : came ≡ before ++ shows ∷ others
  pub piece : List ℕ
  pub used : ℕ
  pub bytes : shows.bytes ≡ take used piece
  pub is : IsPlain config (bytes_came before ++ piece)

-- Haves come from the beginning on, and each answer has all records.
pub record IsServing (config : Configuration) (haves : Serving) (due : List ℕ) (came : List Came)
    (written : List ℕ) : Type 0 where
  pub opens : OpensPlainly config came
  pub all : records_answered haves ≡ All
  pub none_due : due ≡ []
  pub serves : HasServedPieces haves came written

-- Haves come after a question. The first answer has the records if they differ, and no other has
-- any.
pub record IsAnswering (config : Configuration) (haves : Serving) (due : List ℕ) (came : List Came)
    (written : List ℕ) : Type 0 where
  pub asked : List Came
  pub later : List Came
  pub order : came ≡ asked ++ later
  pub front : List ℕ
  pub after : List ℕ
  pub parts : written ≡ front ++ after
  pub differ : Bool
  pub question : AnswersQuestion config asked (front ++ due) differ
  pub waits : (due ≡ [] → ⊥) → (after ≡ [])
  pub serves : HasServedPieces haves (shown_once differ [] later) after
  pub records : fault_of_serving haves ≡ None
      → records_answered haves ≡ records_due differ (has_feed (bytes_came later))

-- ---- the machine

abbrev pub ServesFrom : Opening → Option SyncError → Configuration → Serving → List ℕ → List Came
    → List ℕ → Type 0
ServesFrom (FirstLine part) None config haves due came written = IsOpening part haves due came
    written
ServesFrom (FirstLine part) (Some e) config haves due came written = StopsOpening config haves due
    came written e
ServesFrom (Question question) None config haves due came written = IsAsking config question haves
    due came written
ServesFrom (Question question) (Some e) config haves due came written = StopsOpening config haves
    due came written e
ServesFrom Plain fault config haves due came written = (fault ≡ fault_of_serving haves)
    × IsServing config haves due came written
ServesFrom Answered fault config haves due came written = (fault ≡ fault_of_serving haves)
    × IsAnswering config haves due came written

abbrev pub ServesQuietly : Option SyncError → Configuration → QuietServing → List Came → List ℕ
    → Type 0
ServesQuietly fault config s came written = ServesFrom s.opening fault config s.haves (due_marks s)
    came written

-- These came, of a session of the configuration, and this was written: with what is to be written
-- next it is all that is answered.
abbrev pub HasServedQuietly : Configuration → QuietServing → List Came → List ℕ → Type 0
HasServedQuietly config s came written = ServesQuietly (fault_of_quiet s) config s came written
