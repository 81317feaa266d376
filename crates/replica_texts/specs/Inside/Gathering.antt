-- How the lines after an answer's first are read, one by one.
use Rattle.std.specs.Prelude.{◌≡◌, ℕ, List, [], ◌∷◌, ◌++◌, length, Bool, true, false, Option}
use Rattle.std.specs.Io.KnownBytes.{Consumes}
use Rattle.byte_lines.specs.Lines.{HasLine}
use Rattle.replica_core.specs.State.{State}
use Rattle.replica_texts.specs.Snapshots.{last_of, text_of_lines}
use Rattle.replica_texts.specs.Entries.{IsNextEntry}
use Rattle.replica_core.specs.declared.entry.Entry.{Entry}
use Rattle.replica_core.specs.declared.entry.Entry.TheVariants.{Record, Receipt as AReceipt}
use Rattle.replica_texts.specs.declared.entry_line.Wanted.{Wanted}
use Rattle.replica_core.specs.declared.error.SyncError.{SyncError}
use Rattle.replica_texts.specs.Gives.{IsBegun, RefusesNextEntry, Wants, content_lines, refused_text}
use Rattle.replica_texts.specs.declared.give_reader.GiveBody.{GiveBody}

abbrev pub body_content : GiveBody → State
body_content c = record { held = c.receipts.items; records = c.distrusts.items }

-- with one more at the end of its list
abbrev pub pushed : Entry → State → State
pushed (Record x) content = record { held = content.held; records = content.records ++ x ∷ [] }
pushed (AReceipt r) content = record { held = content.held ++ r ∷ []; records = content.records }

-- The line is the next one, and what it says is now the last.
pub record Pushes (wanted : Wanted) (old : State) (text : List ℕ) (new : State) : Type 0 where
  pub entry : Entry
  pub next : IsNextEntry wanted (last_of (content_lines old)) text entry
  pub now : new ≡ pushed entry old

-- The stream's first line is the one that is wanted. It is used up.
pub record IsNextGiveLine (count distrusts : ℕ) (old : State) (before : Option (List ℕ))
    (new : State) (after : Option (List ℕ)) : Type 0 where
  pub wanted : Wanted
  pub wants : Wants count distrusts old wanted
  pub text : List ℕ
  pub is : HasLine before after text
  pub pushes : Pushes wanted old text new

-- This many receipts and records are there.
pub record IsWhole (count distrusts : ℕ) (content : State) : Type 0 where
  pub receipts : length content.held ≡ count
  pub records : length content.records ≡ distrusts

-- Nothing is wanted any more, and nothing is read.
pub record IsDone (count distrusts : ℕ) (old : State) (before : Option (List ℕ)) (new : State)
    (after : Option (List ℕ)) : Type 0 where
  pub whole : IsWhole count distrusts old
  pub same : new ≡ old
  pub rest : after ≡ before

-- whether there was one more line
abbrev pub StepsThroughGive : ℕ → ℕ → State → Option (List ℕ) → State → Option (List ℕ) → Bool
    → Type 0
StepsThroughGive count distrusts old before new after true = IsNextGiveLine count distrusts old
    before new after
StepsThroughGive count distrusts old before new after false = IsDone count distrusts old before
    new after

-- The stream begins with the lines of this much of the answer, and `left` is what follows.
pub record Gathers (count distrusts : ℕ) (stream : Option (List ℕ)) (content : State)
    (left : Option (List ℕ)) : Type 0 where
  pub begun : IsBegun count distrusts content
  pub text : Consumes stream left (text_of_lines (content_lines content))

-- They are all.
pub record GathersAll (count distrusts : ℕ) (stream : Option (List ℕ)) (content : State)
    (left : Option (List ℕ)) : Type 0 where
  pub gathers : Gathers count distrusts stream content left
  pub whole : IsWhole count distrusts content

-- A good beginning, and after it this error.
pub record StopsGathering (count distrusts : ℕ) (old new : Option (List ℕ))
    (e : SyncError) : Type 0 where
  pub content : State
  pub left : Option (List ℕ)
  pub gathers : Gathers count distrusts old content left
  pub cause : RefusesNextEntry (refused_text content) count distrusts content left new e
