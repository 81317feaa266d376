-- How one line of receipts and records is read and taken.
use Rattle.std.specs.Prelude.{◌+◌, ◌<◌, List, length, ℕ, ◌≡◌, ◌≤◌}
use Rattle.replica_core.specs.declared.entry.Entry.{Entry}
use Rattle.replica_texts.specs.Entries.{IsNextEntry, IsNoEntry, RefusesEntryLine, placed_line}
use Rattle.receipt_core.specs.Acceptance.{Meaning}
use Rattle.replica_core.specs.Absorbing.{RefusesEntry, with_entry}
use Rattle.replica_core.specs.declared.error.SyncError.{SyncError}
use Rattle.closure_core.specs.declared.error.TakeError.{TakeError}
use Rattle.replica_texts.specs.declared.entry_line.Wanted.{Wanted}
use Rattle.receipt_core.specs.declared.line_error.LineError.{LineError}
use Rattle.receipt_core.specs.declared.line_error.LineError.TheVariants.{NotCanonical as NoLine}
use Rattle.receipt_core.specs.declared.line_error.LineError.TheVariants.{TooLong}
use Rattle.receipt_core.specs.declared.line_error.LineError.TheVariants.{NoMemory as NoReadMemory}
use Rattle.byte_lines.specs.Limits.{line_limit}
use Rattle.receipt_core.specs.Limits.{receipt_line_limit}

-- It is held, and this many receipts are that were not.
pub record TakesEntry (old : Meaning) (entry : Entry) (new : Meaning) (count : ℕ) : Type 0 where
  pub meaning : new ≡ with_entry entry old
  pub more : length new.held ≡ length old.held + count

-- Nothing has changed.
pub record HasRefusedEntry (old : Meaning) (entry : Entry) (new : Meaning)
    (why : TakeError) : Type 0 where
  pub cause : RefusesEntry old entry why
  pub same : new ≡ old

-- Memory is wanted only within the bound of receipts' lines.
abbrev pub RefusesSpelling : Wanted → List ℕ → LineError → Type 0
RefusesSpelling wanted text TooLong = line_limit < length text
RefusesSpelling wanted text NoLine = IsNoEntry wanted text
RefusesSpelling wanted text NoReadMemory = length text ≤ receipt_line_limit

-- The text is the next line, and what it says is held.
pub record TakesEntryText (wanted : Wanted) (old : Meaning) (last text : List ℕ) (new : Meaning)
    (count : ℕ) : Type 0 where
  pub entry : Entry
  pub next : IsNextEntry wanted last text entry
  pub taken : TakesEntry old entry new count

-- The line has this error, and nothing has changed.
pub record HasRefusedLine (wanted : Wanted) (old : Meaning) (last : List ℕ) (number : ℕ)
    (text : List ℕ) (new : Meaning) (why : SyncError) : Type 0 where
  pub cause : RefusesEntryLine old (placed_line wanted last number text) why
  pub same : new ≡ old
