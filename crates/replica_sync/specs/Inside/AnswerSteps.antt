-- How one line of an answer, and one piece of a session that pulls, is taken.
use Rattle.std.specs.Prelude.{◌≡◌, ℕ, ◌+◌, ◌<◌, ◌≤◌, ◌⊎◌, ◌++◌, List, [], length}
use Rattle.std.specs.Prelude.{Bool, true, false, Option, Some}
use Rattle.receipt_core.specs.Acceptance.{Meaning}
use Rattle.byte_lines.specs.Limits.{line_limit}
use Rattle.replica_core.specs.Absorbing.{with_entry}
use Rattle.replica_core.specs.Session.{have_of}
use Rattle.replica_core.specs.declared.entry.Entry.{Entry}
use Rattle.replica_core.specs.declared.error.SyncError.{SyncError}
use Rattle.replica_core.specs.declared.error.SyncError.TheVariants.{BadHeader, NotCanonical}
use Rattle.replica_core.specs.declared.error.SyncError.TheVariants.{NoMemory}
use Rattle.replica_texts.specs.Entries.{IsNextEntry}
use Rattle.replica_texts.specs.FirstLines.{RefusesGiveLine}
use Rattle.replica_texts.specs.Gives.{Heads}
use Rattle.replica_texts.specs.Messages.{have_text}
use Rattle.replica_sync.specs.Inside.NextLines.{IsNextOf, RefusesHere}
use Rattle.replica_texts.specs.declared.entry_line.Wanted.{Wanted}
use Rattle.replica_sync.specs.Pieces.{EndsLine, Continues, IsOverlong, piece_run}
use Rattle.replica_sync.specs.Plans.{answered_of, bucket_at, asked_count, plan_of}
use Rattle.replica_sync.specs.declared.answer_lines.AnswerLines.{AnswerLines}
use Rattle.replica_sync.specs.declared.bucket_plan.BucketPlan.{BucketPlan}

-- ---- a line

pub record HasNoLines (lines : AnswerLines) : Type 0 where
  pub bucket : lines.bucket ≡ 0
  pub none : lines.is_begun ≡ false
  pub read : lines.read ≡ 0
  pub taken : lines.taken ≡ 0

-- the same lines were counted
pub record HasSameCounts (old new : AnswerLines) : Type 0 where
  pub bucket : new.bucket ≡ old.bucket
  pub begun : new.is_begun ≡ old.is_begun
  pub read : new.read ≡ old.read
  pub taken : new.taken ≡ old.taken

-- The same lines were counted, whichever answer is next.
pub record HasSameCountsBut (old new : AnswerLines) : Type 0 where
  pub begun : new.is_begun ≡ old.is_begun
  pub due : new.due ≡ old.due
  pub last : new.last ≡ old.last
  pub read : new.read ≡ old.read
  pub taken : new.taken ≡ old.taken

-- what a line leaves to come of its answer, and the line before the next one
pub record LineLeft : Type 0 where
  pub receipts : ℕ
  pub records : ℕ
  pub last : List ℕ

-- It is the first one of an answer.
pub record StepsFirst (m : Meaning) (old : AnswerLines) (text : List ℕ) (new : Meaning)
    (left : LineLeft) : Type 0 where
  pub none : old.is_begun ≡ false
  pub heads : Heads (Some (record { config = m.config; bucket = old.bucket })) text left.receipts
      left.records
  pub same : new ≡ m
  pub last : left.last ≡ []

-- It is that of a receipt or a record, which is held now.
pub record StepsEntry (m : Meaning) (old : AnswerLines) (text : List ℕ) (new : Meaning)
    (left : LineLeft) : Type 0 where
  pub begun : old.is_begun ≡ true
  pub wanted : Wanted
  pub order : IsNextOf old.due.receipts old.due.records wanted left.receipts left.records
  pub entry : Entry
  pub next : IsNextEntry wanted old.last.items text entry
  pub meaning : new ≡ with_entry entry m
  pub last : left.last ≡ text

abbrev pub StepsLine : Meaning → AnswerLines → List ℕ → Meaning → LineLeft → Type 0
StepsLine m old text new left = StepsFirst m old text new left ⊎ StepsEntry m old text new left

-- why the line of a receipt or a record is not taken
pub record RefusesLater (m : Meaning) (old : AnswerLines) (text : List ℕ)
    (e : SyncError) : Type 0 where
  pub begun : old.is_begun ≡ true
  pub wanted : Wanted
  pub receipts : ℕ
  pub records : ℕ
  pub order : IsNextOf old.due.receipts old.due.records wanted receipts records
  pub cause : RefusesHere wanted m old.last.items (old.read + 1) text e

-- why the first line of an answer is not taken
pub record RefusesGiveStart (m : Meaning) (old : AnswerLines) (text : List ℕ)
    (e : SyncError) : Type 0 where
  pub none : old.is_begun ≡ false
  pub cause : RefusesGiveLine (Some (record { config = m.config; bucket = old.bucket })) text e

abbrev pub RefusesAnswerLine : Meaning → AnswerLines → List ℕ → SyncError → Type 0
RefusesAnswerLine m old text e = RefusesGiveStart m old text e ⊎ RefusesLater m old text e

-- More of the answer is still to come.
pub record WaitsOn (old new : AnswerLines) (left : LineLeft) : Type 0 where
  pub bucket : new.bucket ≡ old.bucket
  pub begun : new.is_begun ≡ true
  pub receipts : new.due.receipts ≡ left.receipts
  pub records : new.due.records ≡ left.records

-- Nothing of it is, and the next answer is waited for.
pub record EndsAnswer (old new : AnswerLines) (left : LineLeft) : Type 0 where
  pub bucket : new.bucket ≡ old.bucket + 1
  pub none : new.is_begun ≡ false
  pub receipts : left.receipts ≡ 0
  pub records : left.records ≡ 0

abbrev pub MovesOn : AnswerLines → AnswerLines → LineLeft → Bool → Type 0
MovesOn old new left true = EndsAnswer old new left
MovesOn old new left false = WaitsOn old new left

-- The line is taken.
pub record TakesAnswerLine (m : Meaning) (old : AnswerLines) (text : List ℕ) (then : Meaning)
    (new : AnswerLines) (whole : Bool) : Type 0 where
  pub left : LineLeft
  pub steps : StepsLine m old text then left
  pub read : new.read ≡ old.read + 1
  pub last : new.last.items ≡ left.last
  pub moves : MovesOn old new left whole

-- ---- a piece

-- what is held, how far the answers came, about which buckets is asked, and what is kept of a line
pub record PullState : Type 0 where
  pub held : Meaning
  pub lines : AnswerLines
  pub asked : BucketPlan
  pub kept : List ℕ

-- No line ended.
pub record StaysWithin (old : PullState) (piece : List ℕ) (used : ℕ) (new : PullState)
    (due : List ℕ) : Type 0 where
  pub goes : Continues (piece_run line_limit old.kept piece) new.kept
  pub all : used ≡ length piece
  pub held : new.held ≡ old.held
  pub lines : new.lines ≡ old.lines
  pub asked : new.asked ≡ old.asked
  pub none : due ≡ []

-- the answer in this place of the plan is next, or none is
abbrev pub IsNextAt : Option (List ℕ) → ℕ → AnswerLines → Type 0
IsNextAt plan place lines = ((asked_count plan ≤ place) × (lines.bucket ≡ 256))
    ⊎ ((place < asked_count plan) × ((lines.bucket < 256) × (lines.bucket ≡ bucket_at plan place)))

-- An answer ended, and the next one of the plan is waited for.
pub record PassesOn (old : PullState) (lines : AnswerLines) (new : PullState) : Type 0 where
  pub plan : plan_of new.asked ≡ plan_of old.asked
  pub more : answered_of old.asked < asked_count (plan_of old.asked)
      → answered_of new.asked ≡ answered_of old.asked + 1
  pub counts : HasSameCountsBut lines new.lines
  pub next : IsNextAt (plan_of new.asked) (answered_of new.asked) new.lines

-- what is next after a line, which left the lines like this
abbrev pub ContinuesAfter : Bool → PullState → AnswerLines → PullState → Type 0
ContinuesAfter false old lines new = (new.lines ≡ lines) × (new.asked ≡ old.asked)
ContinuesAfter true old lines new = PassesOn old lines new

-- what is asked after the line: about the next bucket if an answer ended that is not the last
abbrev pub Asks : Meaning → AnswerLines → Bool → List ℕ → Type 0
Asks m lines false due = due ≡ []
Asks m lines true due = ((lines.bucket ≡ 256) × (due ≡ []))
    ⊎ ((lines.bucket < 256) × (due ≡ have_text (have_of m lines.bucket)))

-- A line ended, and is taken.
pub record EndsAnswerLine (old : PullState) (piece : List ℕ) (used : ℕ) (new : PullState)
    (due : List ℕ) : Type 0 where
  pub text : List ℕ
  pub ends : EndsLine (piece_run line_limit old.kept piece) used text
  pub kept : new.kept ≡ []
  pub whole : Bool
  pub lines : AnswerLines
  pub takes : TakesAnswerLine old.held old.lines text new.held lines whole
  pub passes : ContinuesAfter whole old lines new
  pub asks : Asks new.held new.lines whole due

abbrev pub TakesPulled : PullState → List ℕ → ℕ → PullState → List ℕ → Type 0
TakesPulled old piece used new due = StaysWithin old piece used new due
    ⊎ EndsAnswerLine old piece used new due

-- the error of a line that is too long
abbrev pub IsLongFault : AnswerLines → SyncError → Type 0
IsLongFault lines e = ((lines.is_begun ≡ false) × (e ≡ BadHeader))
    ⊎ ((lines.is_begun ≡ true) × ((e ≡ NotCanonical (lines.read + 1)) ⊎ (e ≡ NoMemory)))

-- A line becomes too long.
pub record RefusesLong (old : PullState) (piece : List ℕ) (e : SyncError) : Type 0 where
  pub over : IsOverlong line_limit (old.kept ++ piece)
  pub cause : IsLongFault old.lines e

-- A line ended, and has this error.
pub record RefusesEnded (old : PullState) (piece : List ℕ) (e : SyncError) : Type 0 where
  pub used : ℕ
  pub text : List ℕ
  pub ends : EndsLine (piece_run line_limit old.kept piece) used text
  pub cause : RefusesAnswerLine old.held old.lines text e

-- Nothing of the piece is taken.
pub record RefusesPulled (old : PullState) (piece : List ℕ) (new : PullState)
    (e : SyncError) : Type 0 where
  pub cause : (e ≡ NoMemory) ⊎ (RefusesLong old piece e ⊎ RefusesEnded old piece e)
  pub same : new.held ≡ old.held

-- A line is taken that ends an answer, and memory ran out for the next have.
pub record RefusesAsking (old : PullState) (piece : List ℕ) (new : PullState)
    (e : SyncError) : Type 0 where
  pub cause : e ≡ NoMemory
  pub used : ℕ
  pub text : List ℕ
  pub ends : EndsLine (piece_run line_limit old.kept piece) used text
  pub lines : AnswerLines
  pub takes : TakesAnswerLine old.held old.lines text new.held lines true
  pub passes : PassesOn old lines new
  pub few : new.lines.bucket < 256

abbrev pub FailsPulled : PullState → List ℕ → PullState → SyncError → Type 0
FailsPulled old piece new e = RefusesPulled old piece new e ⊎ RefusesAsking old piece new e
