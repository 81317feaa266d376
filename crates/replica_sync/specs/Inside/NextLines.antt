-- Which line comes next of an answer, and what is wrong with a text in its place.
use Rattle.std.specs.Prelude.{◌≡◌, ℕ, ◌+◌, ◌⊎◌, List}
use Rattle.receipt_core.specs.Acceptance.{Meaning}
use Rattle.replica_core.specs.declared.error.SyncError.{SyncError}
use Rattle.replica_core.specs.declared.error.SyncError.TheVariants.{NoMemory}
use Rattle.replica_texts.specs.Entries.{RefusesEntryLine, placed_line}
use Rattle.replica_texts.specs.declared.entry_line.Wanted.{Wanted}
use Rattle.replica_texts.specs.declared.entry_line.Wanted.TheVariants.{Records, Receipts, Either}

-- which line comes next when this many receipts and records are still to come, and how many then
-- are
abbrev pub IsNextOf : ℕ → ℕ → Wanted → ℕ → ℕ → Type 0
IsNextOf receipts records Records receipts_then records_then = (records ≡ records_then + 1)
    × (receipts ≡ receipts_then)
IsNextOf receipts records Receipts receipts_then records_then = (records ≡ 0) × (records_then ≡ 0)
    × (receipts ≡ receipts_then + 1)
IsNextOf receipts records Either receipts_then records_then = ⊥

-- what is wrong with the text if a line with this number is wanted; or memory is wanted for it
abbrev pub RefusesHere : Wanted → Meaning → List ℕ → ℕ → List ℕ → SyncError → Type 0
RefusesHere wanted m last number text e = (e ≡ NoMemory)
    ⊎ RefusesEntryLine m (placed_line wanted last number text) e
