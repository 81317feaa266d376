-- The lines of receipts and records of distrust, as they follow one another in snapshots and
-- answers: which may be at a place, what they say, and the errors of one line.
use Rattle.std.specs.Prelude.{◌≡◌, ◌≢◌, ℕ, ◌<◌, ◌≤◌, ◌⊎◌, List, length}
use Rattle.std.specs.declared.cmp.Ordering.TheVariants.{Less}
use Rattle.std.specs.Ordering.{nat_cmp}
use Rattle.std.specs.Cmp.Lexicographic.{slice_cmp}
use Rattle.receipt_core.specs.Receipt.{IsReceipt, line, IsDistrust, distrust_line}
use Rattle.receipt_core.specs.Acceptance.{Meaning}
use Rattle.closure_core.specs.declared.error.TakeError.{TakeError}
use Rattle.closure_core.specs.declared.error.TakeError.TheVariants.{NoMemory as NoTakeMemory}
use Rattle.replica_core.specs.declared.entry.Entry.{Entry}
use Rattle.replica_core.specs.declared.entry.Entry.TheVariants.{Record, Receipt as AReceipt}
use Rattle.replica_texts.specs.declared.entry_line.Wanted.{Wanted}
use Rattle.replica_texts.specs.declared.entry_line.Wanted.TheVariants.{Records, Receipts, Either}
use Rattle.replica_core.specs.declared.error.SyncError.{SyncError}
use Rattle.replica_core.specs.declared.error.SyncError.TheVariants.{NotCanonical}
use Rattle.replica_core.specs.declared.error.SyncError.TheVariants.{NotRising}
use Rattle.replica_core.specs.declared.error.SyncError.TheVariants.{Refused, NoMemory}
use Rattle.replica_core.specs.Absorbing.{RefusesEntry}
use Rattle.byte_lines.specs.Limits.{line_limit}
use Rattle.receipt_core.specs.Limits.{receipt_line_limit}

-- ---- what a line says

abbrev pub entry_line : Entry → List ℕ
entry_line (Record x) = distrust_line x
entry_line (AReceipt r) = line r

-- It is a receipt or a record, and of a kind that may be there.
abbrev pub IsWanted : Wanted → Entry → Type 0
IsWanted Records (Record x) = IsDistrust x
IsWanted Receipts (AReceipt r) = IsReceipt r
IsWanted Either (Record x) = IsDistrust x
IsWanted Either (AReceipt r) = IsReceipt r
IsWanted _ _ = ⊥

-- the text is the one spelling of what it says
pub record IsEntry (wanted : Wanted) (text : List ℕ) (entry : Entry) : Type 0 where
  pub is : IsWanted wanted entry
  pub spelt : text ≡ entry_line entry

abbrev pub IsNoEntry : Wanted → List ℕ → Type 0
IsNoEntry wanted text = (entry : Entry) → IsEntry wanted text entry → ⊥

-- the text is greater, byte by byte, than the line before it; the empty text means that there was
-- none
abbrev pub IsAbove : List ℕ → List ℕ → Type 0
IsAbove last text = slice_cmp nat_cmp last text ≡ Less

pub record IsNextEntry (wanted : Wanted) (last text : List ℕ) (entry : Entry) : Type 0 where
  pub is : IsEntry wanted text entry
  pub above : IsAbove last text

-- ---- the errors of one line

-- The line is too long, or none that may be there.
abbrev pub IsNoLineOf : Wanted → List ℕ → Type 0
IsNoLineOf wanted text = (line_limit < length text) ⊎ IsNoEntry wanted text

-- It is one that may be there, and not greater than the line before.
pub record IsNotAbove (wanted : Wanted) (last text : List ℕ) : Type 0 where
  pub entry : Entry
  pub is : IsEntry wanted text entry
  pub below : IsAbove last text → ⊥

-- It is the next line, and what it says is refused.
pub record IsRefused (wanted : Wanted) (m : Meaning) (last text : List ℕ)
    (why : TakeError) : Type 0 where
  pub entry : Entry
  pub next : IsNextEntry wanted last text entry
  pub cause : RefusesEntry m entry why

-- a line at its place: what may be there, the line before it, its number, and its text
pub record PlacedLine : Type 0 where
  pub wanted : Wanted
  pub last : List ℕ
  pub number : ℕ
  pub text : List ℕ

abbrev pub placed_line : Wanted → List ℕ → ℕ → List ℕ → PlacedLine
placed_line wanted last number text =
    record { wanted = wanted; last = last; number = number; text = text }

-- what is wrong with the text itself
abbrev pub RefusesEntryText : PlacedLine → SyncError → Type 0
RefusesEntryText line (NotCanonical n) = (n ≡ line.number) × IsNoLineOf line.wanted line.text
RefusesEntryText line (NotRising n) = (n ≡ line.number)
    × IsNotAbove line.wanted line.last line.text
RefusesEntryText line NoMemory = length line.text ≤ receipt_line_limit
RefusesEntryText line _ = ⊥

-- The errors of a line, if the closure means m: the first of these that holds.
abbrev pub RefusesEntryLine : Meaning → PlacedLine → SyncError → Type 0
RefusesEntryLine m line (NotCanonical n) = (n ≡ line.number) × IsNoLineOf line.wanted line.text
RefusesEntryLine m line (NotRising n) = (n ≡ line.number)
    × IsNotAbove line.wanted line.last line.text
RefusesEntryLine m line (Refused n why) = (n ≡ line.number) × (why ≢ NoTakeMemory)
    × IsRefused line.wanted m line.last line.text why
RefusesEntryLine m line NoMemory = (length line.text ≤ receipt_line_limit)
    ⊎ IsRefused line.wanted m line.last line.text NoTakeMemory
RefusesEntryLine m line _ = ⊥
