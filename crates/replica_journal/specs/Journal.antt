-- The journal: what came since a snapshot, in the order in which it came, and what its bytes say
-- wherever they end.
use Rattle.std.specs.Prelude.{◌≡◌, ℕ, ◌+◌, ◌<◌, ◌⊎◌, ◌++◌, ◌∷◌, List, [], length, map, flat_map, ⊤}
use Rattle.std.specs.Prelude.{Option, None, Some}
use Rattle.std.specs.List.{AllByRecursion}
use Rattle.fed_config.specs.Configuration.{Configuration}
use Rattle.byte_lines.specs.Limits.{line_limit}
use Rattle.byte_lines.specs.Lines.{lines_of}
use Rattle.receipt_core.specs.Acceptance.{Meaning, IsMeaning}
use Rattle.replica_core.specs.Absorbing.{with_entries}
use Rattle.replica_core.specs.declared.entry.Entry.{Entry}
use Rattle.replica_core.specs.declared.error.SyncError.{SyncError}
use Rattle.replica_core.specs.declared.error.SyncError.TheVariants.{BadHeader, ConfigDiffers}
use Rattle.replica_core.specs.declared.error.SyncError.TheVariants.{VersionDiffers, NotCanonical}
use Rattle.replica_core.specs.declared.error.SyncError.TheVariants.{Refused, Io, NoMemory}
use Rattle.replica_texts.specs.Entries.{entry_line}
use Rattle.replica_texts.specs.Snapshots.{ended}
use Rattle.replica_texts.specs.SoleLines.{IsWellFormed, RefusesSoleHeader, RefusesSoleLine}
use Rattle.replica_texts.specs.SoleLines.{written_header}

-- ---- the text

-- what is appended for a receipt or a record: its line, and a line feed
abbrev pub entry_text : Entry → List ℕ
entry_text entry = ended (entry_line entry)

-- the first line, which is a snapshot's, and then what was appended
abbrev pub journal_text : Configuration → List Entry → List ℕ
journal_text config entries = ended (written_header config) ++ flat_map entry_text entries

-- each is a receipt or a record of its form
abbrev pub AreWellFormed : List Entry → Type 0
AreWellFormed = AllByRecursion IsWellFormed

-- ---- what is read

-- These lines are those of entries, and after m these are held too.
pub record ReadsEntries (m : Meaning) (texts : List (List ℕ)) (new : Meaning) : Type 0 where
  pub entries : List Entry
  pub each : AreWellFormed entries
  pub spelt : texts ≡ map entry_line entries
  pub meaning : new ≡ with_entries entries m

-- The first line is that of the configuration. If it is not whole, nothing was appended.
abbrev pub ReadsLines : Meaning → List (List ℕ) → Meaning → Type 0
ReadsLines m [] new = new ≡ m
ReadsLines m (first ∷ texts) new = (first ≡ written_header m.config) × ReadsEntries m texts new

-- Lines that are whole count, and a rest without a line feed does not.
abbrev pub ReadsJournal : Meaning → Option (List ℕ) → Meaning → Type 0
ReadsJournal m None new = ⊤
ReadsJournal m (Some bytes) new = ReadsLines m (lines_of bytes).whole new

-- ---- what is refused

-- what is wrong with the first line; one that is too long is not a first line
abbrev pub RefusesJournalStart : Configuration → List ℕ → SyncError → Type 0
RefusesJournalStart config text e = ((e ≡ BadHeader) × (line_limit < length text))
    ⊎ RefusesSoleHeader config text e

-- The first line has this error.
pub record HasBadStart (config : Configuration) (texts : List (List ℕ))
    (e : SyncError) : Type 0 where
  pub text : List ℕ
  pub later : List (List ℕ)
  pub is : texts ≡ text ∷ later
  pub cause : RefusesJournalStart config text e

-- The first line is right, the lines of these entries follow it, which may all be held, and the
-- line after them has this error. Lines count from 1.
pub record HasBadEntry (m : Meaning) (texts : List (List ℕ)) (e : SyncError) : Type 0 where
  pub before : List Entry
  pub text : List ℕ
  pub later : List (List ℕ)
  pub each : AreWellFormed before
  pub valid : IsMeaning (with_entries before m)
  pub is : texts ≡ written_header m.config ∷ (map entry_line before ++ text ∷ later)
  pub cause : RefusesSoleLine (with_entries before m) (length before + 2) text e

-- what is wrong with the first whole line that has an error; nothing is known of the lines if the
-- source failed or memory ran out
abbrev pub RefusesWholeLines : Meaning → List (List ℕ) → SyncError → Type 0
RefusesWholeLines m texts BadHeader = HasBadStart m.config texts BadHeader
RefusesWholeLines m texts ConfigDiffers = HasBadStart m.config texts ConfigDiffers
RefusesWholeLines m texts VersionDiffers = HasBadStart m.config texts VersionDiffers
RefusesWholeLines m texts (NotCanonical n) = HasBadEntry m texts (NotCanonical n)
RefusesWholeLines m texts (Refused n why) = HasBadEntry m texts (Refused n why)
RefusesWholeLines m texts Io = Unit {0}
RefusesWholeLines m texts NoMemory = Unit {0}
RefusesWholeLines m texts _ = ⊥

abbrev pub RefusesJournal : Meaning → Option (List ℕ) → SyncError → Type 0
RefusesJournal m None e = ⊤
RefusesJournal m (Some bytes) e = RefusesWholeLines m (lines_of bytes).whole e
