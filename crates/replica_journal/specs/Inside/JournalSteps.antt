-- How a journal is read, line by line.
use Rattle.std.specs.Prelude.{◌≡◌, ℕ, ◌+◌, List, length, map, Bool, true, false, Option}
use Rattle.std.specs.List.{AllByRecursion}
use Rattle.std.specs.Io.KnownBytes.{Consumes}
use Rattle.fed_config.specs.Configuration.{Configuration}
use Rattle.byte_lines.specs.Lines.{HasLine, HasNoLine, HasNoFeed}
use Rattle.receipt_core.specs.Acceptance.{Meaning, IsMeaning}
use Rattle.replica_core.specs.Absorbing.{with_entries}
use Rattle.replica_core.specs.declared.entry.Entry.{Entry}
use Rattle.replica_core.specs.declared.error.SyncError.{SyncError}
use Rattle.replica_core.specs.declared.error.SyncError.TheVariants.{BadHeader, ConfigDiffers}
use Rattle.replica_core.specs.declared.error.SyncError.TheVariants.{VersionDiffers, NotCanonical}
use Rattle.replica_core.specs.declared.error.SyncError.TheVariants.{Refused, Io, NoMemory}
use Rattle.replica_texts.specs.Entries.{entry_line}
use Rattle.replica_texts.specs.Snapshots.{text_of_lines}
use Rattle.replica_texts.specs.SoleLines.{RefusesSoleLine, TakesSoleLine, written_header}
use Rattle.replica_journal.specs.Journal.{AreWellFormed, RefusesJournalStart}

-- ---- the first line

-- It is whole, or no line is.
abbrev pub FindsStart : Configuration → Option (List ℕ) → Option (List ℕ) → Bool → Type 0
FindsStart config old new true = HasLine old new (written_header config)
FindsStart config old new false = HasNoLine old

-- It is whole, and has this error.
pub record StartsBadly (config : Configuration) (stream : Option (List ℕ))
    (e : SyncError) : Type 0 where
  pub text : List ℕ
  pub after : Option (List ℕ)
  pub is : HasLine stream after text
  pub cause : RefusesJournalStart config text e

abbrev pub FailsStart : Configuration → Option (List ℕ) → SyncError → Type 0
FailsStart config stream BadHeader = StartsBadly config stream BadHeader
FailsStart config stream ConfigDiffers = StartsBadly config stream ConfigDiffers
FailsStart config stream VersionDiffers = StartsBadly config stream VersionDiffers
FailsStart config stream Io = Unit {0}
FailsStart config stream NoMemory = Unit {0}
FailsStart config stream _ = ⊥

-- ---- one line after it

-- The next line is whole, and what it says is held.
pub record StepsOn (old : Meaning) (before : Option (List ℕ)) (new : Meaning)
    (after : Option (List ℕ)) : Type 0 where
  pub text : List ℕ
  pub is : HasLine before after text
  pub count : ℕ
  pub takes : TakesSoleLine old text new count

-- whether there is one
abbrev pub StepsThroughJournal : Meaning → Option (List ℕ) → Meaning → Option (List ℕ) → Bool
    → Type 0
StepsThroughJournal old before new after true = StepsOn old before new after
StepsThroughJournal old before new after false = (new ≡ old) × HasNoLine before

-- The next line is whole, and has this error.
pub record HasBadSoleLine (m : Meaning) (number : ℕ) (stream : Option (List ℕ))
    (e : SyncError) : Type 0 where
  pub text : List ℕ
  pub after : Option (List ℕ)
  pub is : HasLine stream after text
  pub cause : RefusesSoleLine m number text e

abbrev pub FailsNext : Meaning → ℕ → Option (List ℕ) → SyncError → Type 0
FailsNext m number stream (NotCanonical n) = HasBadSoleLine m number stream (NotCanonical n)
FailsNext m number stream (Refused n why) = HasBadSoleLine m number stream (Refused n why)
FailsNext m number stream Io = Unit {0}
FailsNext m number stream NoMemory = Unit {0}
FailsNext m number stream _ = ⊥

-- ---- all of them

-- These are the lines of entries that are held now too, and `left` is what follows them.
pub record HasReadPart (m : Meaning) (stream : Option (List ℕ)) (entries : List Entry)
    (now : Meaning) (left : Option (List ℕ)) : Type 0 where
  pub each : AreWellFormed entries
  pub plain : AllByRecursion HasNoFeed (map entry_line entries)
  pub text : Consumes stream left (text_of_lines (map entry_line entries))
  pub meaning : now ≡ with_entries entries m

-- They are all that are whole.
pub record HasReadAll (m : Meaning) (stream : Option (List ℕ)) (now : Meaning) : Type 0 where
  pub entries : List Entry
  pub left : Option (List ℕ)
  pub part : HasReadPart m stream entries now left
  pub ends : HasNoLine left
  pub valid : IsMeaning now

-- After this many the next one has this error; this many lines were read before the first of them.
pub record FailsBehindLines (m : Meaning) (read : ℕ) (stream : Option (List ℕ))
    (e : SyncError) : Type 0 where
  pub entries : List Entry
  pub now : Meaning
  pub left : Option (List ℕ)
  pub part : HasReadPart m stream entries now left
  pub valid : IsMeaning now
  pub cause : FailsNext now (read + length entries + 1) left e
