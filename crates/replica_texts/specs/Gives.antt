-- How answers are read from a stream.
use Rattle.std.specs.Prelude.{◌≡◌, ℕ, ◌+◌, ◌<◌, ◌≤◌, ◌⊎◌, List, [], ◌++◌, map, length, Option, Some}
use Rattle.std.specs.Prelude.{None}
use Rattle.std.specs.List.{AllByRecursion}
use Rattle.std.specs.List.Sorted.{IsStrictlySortedBy}
use Rattle.std.specs.Io.KnownBytes.{Consumes}
use Rattle.std.specs.Ordering.{nat_cmp}
use Rattle.std.specs.Cmp.Lexicographic.{slice_cmp}
use Rattle.byte_lines.specs.Lines.{HasLine, HasNoLine}
use Rattle.receipt_core.specs.Receipt.{IsReceipt, line, IsDistrust, distrust_line}
use Rattle.replica_core.specs.State.{State}
use Rattle.replica_core.specs.Session.{GiveMessage}
use Rattle.replica_texts.specs.Snapshots.{ended, last_of, text_of_lines}
use Rattle.replica_texts.specs.Entries.{RefusesEntryText, placed_line}
use Rattle.replica_texts.specs.declared.entry_line.Wanted.{Wanted}
use Rattle.replica_texts.specs.declared.entry_line.Wanted.TheVariants.{Records, Receipts, Either}
use Rattle.replica_texts.specs.Messages.{GiveHeader, give_header_of}
use Rattle.replica_texts.specs.FirstLines.{Expected, IsWantedHeader, HasDigestOf}
use Rattle.replica_texts.specs.FirstLines.{IsSupportedVersion, IsGiveHeader, config_of}
use Rattle.replica_texts.specs.FirstLines.{HasBadFirstLine, RefusesGiveLine}
use Rattle.replica_core.specs.declared.error.SyncError.{SyncError}
use Rattle.replica_core.specs.declared.error.SyncError.TheVariants.{BadHeader, ConfigDiffers}
use Rattle.replica_core.specs.declared.error.SyncError.TheVariants.{VersionDiffers, NotCanonical}
use Rattle.replica_core.specs.declared.error.SyncError.TheVariants.{NotRising, Truncated}
use Rattle.replica_core.specs.declared.error.SyncError.TheVariants.{Refused, Io, NoMemory}

-- the lines of records, and then those of receipts
abbrev pub content_lines : State → List (List ℕ)
content_lines content = map distrust_line content.records ++ map line content.held

-- It is a first line that is read: about the bucket that is wanted, of this configuration, in the
-- one format that is supported, with this many receipts and records.
pub record Heads (expected : Option Expected) (text : List ℕ) (count distrusts : ℕ) : Type 0 where
  pub header : GiveHeader
  pub wanted : IsWantedHeader expected text header
  pub own : HasDigestOf (config_of expected) header.config
  pub supported : IsSupportedVersion header.format header.buckets
  pub receipts : count ≡ header.count
  pub records : Some distrusts ≡ header.distrusts

-- what is given as receipts and records are such
pub record IsContent (content : State) : Type 0 where
  pub receipts : AllByRecursion IsReceipt content.held
  pub records : AllByRecursion IsDistrust content.records

-- It is an answer: its bucket is one of 256, its digest has 32 bytes, and the lines of what it
-- gives rise.
pub record IsGive (give : GiveMessage) : Type 0 where
  pub header : IsGiveHeader (give_header_of give)
  pub valid : IsContent give.content
  pub rising : IsStrictlySortedBy (slice_cmp nat_cmp) (content_lines give.content)

-- A beginning of an answer with `count` receipts and `distrusts` records: first its records, then
-- its receipts.
pub record IsBegun (count distrusts : ℕ) (content : State) : Type 0 where
  pub valid : IsContent content
  pub records : length content.records ≤ distrusts
  pub receipts : length content.held ≤ count
  pub order : length content.records < distrusts → content.held ≡ []
  pub rising : IsStrictlySortedBy (slice_cmp nat_cmp) (content_lines content)

-- The stream begins with a first line that is read, and this much of the answer; `left` is what
-- follows.
pub record GiveBegins (expected : Option Expected) (stream : Option (List ℕ))
    (count distrusts : ℕ) (content : State) (left : Option (List ℕ)) : Type 0 where
  pub first : List ℕ
  pub heads : Heads expected first count distrusts
  pub begun : IsBegun count distrusts content
  pub text : Consumes stream left (ended first ++ text_of_lines (content_lines content))

-- which line is wanted after this much of an answer that is not whole
abbrev pub Wants : ℕ → ℕ → State → Wanted → Type 0
Wants count distrusts content Records = length content.records < distrusts
Wants count distrusts content Receipts = (length content.records ≡ distrusts)
    × (length content.held < count)
Wants count distrusts content Either = ⊥

-- the number of the next line, if this is the number of the answer's first line
abbrev pub next_entry_number : ℕ → State → ℕ
next_entry_number first content = first + 1 + length content.records + length content.held

-- The next line has an error. It is used up.
pub record HasBadNext (refuses : Wanted → List ℕ → List ℕ → SyncError → Type 0)
    (count distrusts : ℕ) (content : State) (left after : Option (List ℕ))
    (e : SyncError) : Type 0 where
  pub wanted : Wanted
  pub wants : Wants count distrusts content wanted
  pub text : List ℕ
  pub is : HasLine left after text
  pub cause : refuses wanted (last_of (content_lines content)) text e

-- one line more is wanted, and none comes
pub record HasNoNext (count distrusts : ℕ) (content : State) (left : Option (List ℕ)) : Type 0 where
  pub wanted : Wanted
  pub wants : Wants count distrusts content wanted
  pub ends : HasNoLine left

-- why the line that is wanted after this much of an answer is not read
abbrev pub RefusesNextEntry : (Wanted → List ℕ → List ℕ → SyncError → Type 0) → ℕ → ℕ → State
    → Option (List ℕ) → Option (List ℕ) → SyncError → Type 0
RefusesNextEntry refuses count distrusts content left after (NotCanonical n) = HasBadNext refuses
    count distrusts content left after (NotCanonical n)
RefusesNextEntry refuses count distrusts content left after (NotRising n) = HasBadNext refuses count
    distrusts content left after (NotRising n)
RefusesNextEntry refuses count distrusts content left after Truncated = HasNoNext count distrusts
    content left
RefusesNextEntry refuses count distrusts content left after (Refused n why) = HasBadNext refuses
    count distrusts content left after (Refused n why)
RefusesNextEntry refuses count distrusts content left after Io = Unit {0}
RefusesNextEntry refuses count distrusts content left after NoMemory = Unit {0}
RefusesNextEntry refuses count distrusts content left after _ = ⊥

-- why the first line that should begin here is not read
abbrev pub RefusesHead : Option Expected → Option (List ℕ) → Option (List ℕ) → SyncError → Type 0
RefusesHead expected old new BadHeader = HasBadFirstLine (RefusesGiveLine expected) old new
    BadHeader
RefusesHead expected old new ConfigDiffers = HasBadFirstLine (RefusesGiveLine expected) old new
    ConfigDiffers
RefusesHead expected old new VersionDiffers = HasBadFirstLine (RefusesGiveLine expected) old new
    VersionDiffers
RefusesHead expected old new Truncated = HasNoLine old
RefusesHead expected old new Io = Unit {0}
RefusesHead expected old new NoMemory = Unit {0}
RefusesHead expected old new _ = ⊥

-- ---- a single answer

-- what is wrong with a line when nothing is held yet
abbrev pub refused_text : State → Wanted → List ℕ → List ℕ → SyncError → Type 0
refused_text content wanted last text e = RefusesEntryText
    (placed_line wanted last (next_entry_number 1 content) text) e

-- A good beginning, and after it this error.
pub record GiveFailsAfter (old new : Option (List ℕ)) (e : SyncError) : Type 0 where
  pub count : ℕ
  pub distrusts : ℕ
  pub content : State
  pub left : Option (List ℕ)
  pub begins : GiveBegins None old count distrusts content left
  pub cause : RefusesNextEntry (refused_text content) count distrusts content left new e

-- Why no answer is read. The lines that were read are used up.
abbrev pub RefusesGive : Option (List ℕ) → Option (List ℕ) → SyncError → Type 0
RefusesGive old new e = RefusesHead None old new e ⊎ GiveFailsAfter old new e
