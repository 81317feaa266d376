-- A beginning of a journal's bytes.
use Rattle.std.proofs.Common.{◌≡◌, ℕ, ◌==◌, Bool, true, false, List, [], ◌∷◌, ◌++◌, map, take, drop, Some, refl, sym, ap, ◌∙◌, subst}
use Rattle.std.proofs.Common.{append_assoc, append-nil, take-append-drop}
use Rattle.fed_config.specs.Configuration.{Configuration}
use Rattle.byte_lines.specs.Lines.{HasNoFeed, Lines, before, lines_of, with_byte}
use Rattle.receipt_core.specs.Acceptance.{Meaning}
use Rattle.replica_core.specs.Absorbing.{with_entries}
use Rattle.replica_core.specs.declared.entry.Entry.{Entry}
use Rattle.replica_core.specs.declared.error.SyncError.{SyncError}
use Rattle.replica_core.specs.declared.error.SyncError.TheVariants.{BadHeader, ConfigDiffers, VersionDiffers, NotCanonical, NotRising, BadCount, Truncated}
use Rattle.replica_core.specs.declared.error.SyncError.TheVariants.{Refused, Io, NoMemory}
use Rattle.std.specs.List.{AllByRecursion}
use Rattle.std.proofs.lemmas.List.Folds.{flat_map-map}
use Rattle.replica_texts.specs.Entries.{entry_line}
use Rattle.replica_texts.specs.Snapshots.{ended, text_of_lines}
use Rattle.replica_journal.proofs.JournalFacts.{whole_of_texts}
use Rattle.replica_texts.specs.SoleLines.{IsWellFormed, written_header}
use Rattle.replica_journal.specs.Journal.{AreWellFormed, HasBadEntry, HasBadStart, ReadsJournal, ReadsLines, RefusesJournal, RefusesWholeLines, journal_text}

-- ---- the whole lines of more bytes

-- the whole lines of the second are those of the first and more
pub record Extends (first second : Lines) : Type 0 where
  pub later : List (List ℕ)
  pub is : second.whole ≡ first.whole ++ later

-- A byte before the first line, or before the rest, changes no other line.
before_more : (b : ℕ) (ls ms : List (List ℕ)) (l m : List ℕ) (later : List (List ℕ)) → ms ≡ ls ++ later → Extends (before b ls l) (before b ms m)
before_more b [] ms l m later e = record { later = (before b ms m).whole; is = refl }
before_more b (text ∷ ls) ms l m later e =
    record { later = later; is = subst (λ xs. (before b xs m).whole ≡ (b ∷ text) ∷ (ls ++ later)) (sym e) refl }

-- One byte more at the front.
byte_more : (feed : Bool) (b : ℕ) (l m : Lines) → Extends l m → Extends (with_byte feed b l) (with_byte feed b m)
byte_more true b l m h = record { later = h.later; is = ap (λ ls. [] ∷ ls) h.is }
byte_more false b l m h = before_more b l.whole m.whole l.rest m.rest h.later h.is

-- With more bytes behind, whole lines remain, and more may follow.
pub lines_extend : (xs ys : List ℕ) → Extends (lines_of xs) (lines_of (xs ++ ys))
lines_extend [] ys = record { later = (lines_of ys).whole; is = refl }
lines_extend (b ∷ xs) ys = byte_more (b == 10) b (lines_of xs) (lines_of (xs ++ ys)) (lines_extend xs ys)

-- the whole lines of a beginning, and those behind them
pub lines_of_beginning : (size : ℕ) (bytes : List ℕ) → Extends (lines_of (take size bytes)) (lines_of bytes)
lines_of_beginning size bytes =
    subst (λ (l : List ℕ). Extends (lines_of (take size bytes)) (lines_of l)) (take-append-drop size bytes) (lines_extend (take size bytes) (drop size bytes))

-- ---- what they say

-- the first of these lines are those of the first entries
record AreFirst (texts : List (List ℕ)) : Type 0 where
  pub entries : List Entry
  pub each : AreWellFormed entries
  pub spelt : texts ≡ map entry_line entries

-- A beginning of the lines of entries is the lines of a beginning of them.
first_entries : (texts later : List (List ℕ)) (entries : List Entry) → AreWellFormed entries → texts ++ later ≡ map entry_line entries → AreFirst texts
first_entries [] later entries each e = record { entries = []; each = tt; spelt = refl }
first_entries (text ∷ texts) later [] each e = absurd (cc)
first_entries (text ∷ texts) later (entry ∷ entries) each e =
    let head : text ≡ entry_line entry = cc in
    let tail : texts ++ later ≡ map entry_line entries = cc in
    let rest = first_entries texts later entries each.1 tail in
    record { entries = entry ∷ rest.entries; each = (each.0, rest.each); spelt = λ i. head i ∷ rest.spelt i }

-- If lines are read, a beginning of them is read.
reads_first : (m now : Meaning) (texts later : List (List ℕ)) → ReadsLines m (texts ++ later) now → (then : Meaning) × ReadsLines m texts then
reads_first m now [] later h = (m, refl)
reads_first m now (text ∷ texts) later h =
    let first = first_entries texts later h.1.entries h.1.each h.1.spelt in
    (with_entries first.entries m, (h.0, record { entries = first.entries; each = first.each; spelt = first.spelt; meaning = refl }))

-- If a journal is read, each beginning of it is read.
pub beginning_read : (m now : Meaning) (bytes : List ℕ) (size : ℕ) → ReadsJournal m (Some bytes) now
    → (then : Meaning) × ReadsJournal m (Some (take size bytes)) then
beginning_read m now bytes size h =
    let more = lines_of_beginning size bytes in
    reads_first m now (lines_of (take size bytes)).whole more.later (subst (λ ls. ReadsLines m ls now) more.is h)

-- ---- what is refused

-- An error of the first line is one of more lines.
start_more : (config : Configuration) (texts later : List (List ℕ)) (e : SyncError) → HasBadStart config texts e → HasBadStart config (texts ++ later) e
start_more config texts later e h = record { text = h.text; later = h.later ++ later; is = ap (λ l. l ++ later) h.is; cause = h.cause }

-- An error of another line is one of more lines.
entry_more : (m : Meaning) (texts later : List (List ℕ)) (e : SyncError) → HasBadEntry m texts e → HasBadEntry m (texts ++ later) e
entry_more m texts later e h = record {
  before = h.before;
  text = h.text;
  later = h.later ++ later;
  each = h.each;
  valid = h.valid;
  is = ap (λ l. l ++ later) h.is
      ∙ ap (λ l. written_header m.config ∷ l) (append_assoc (map entry_line h.before) (h.text ∷ h.later) later);
  cause = h.cause;
}

-- What is wrong with lines is wrong with more of them.
refused_more : (m : Meaning) (texts later : List (List ℕ)) (e : SyncError) → RefusesWholeLines m texts e → RefusesWholeLines m (texts ++ later) e
refused_more m texts later BadHeader h = start_more m.config texts later BadHeader h
refused_more m texts later ConfigDiffers h = start_more m.config texts later ConfigDiffers h
refused_more m texts later VersionDiffers h = start_more m.config texts later VersionDiffers h
refused_more m texts later (NotCanonical n) h = entry_more m texts later (NotCanonical n) h
refused_more m texts later (NotRising n) h = h
refused_more m texts later BadCount h = h
refused_more m texts later Truncated h = h
refused_more m texts later (Refused n why) h = entry_more m texts later (Refused n why) h
refused_more m texts later Io h = tt
refused_more m texts later NoMemory h = tt

-- A beginning of a journal has no error that the journal does not have.
pub beginning_refused : (m : Meaning) (bytes : List ℕ) (size : ℕ) (e : SyncError) → RefusesJournal m (Some (take size bytes)) e
    → RefusesJournal m (Some bytes) e
beginning_refused m bytes size e h =
    let more = lines_of_beginning size bytes in
    subst (λ ls. RefusesWholeLines m ls e) (sym more.is) (refused_more m (lines_of (take size bytes)).whole more.later e h)

-- ---- what is written

-- The lines of entries have no line feed.
all_plain : ((entry : Entry) → IsWellFormed entry → HasNoFeed (entry_line entry)) → (entries : List Entry) → AreWellFormed entries
    → AllByRecursion HasNoFeed (map entry_line entries)
all_plain plain [] each = tt
all_plain plain (entry ∷ entries) each = (plain entry each.0, all_plain plain entries each.1)

-- What is written is read as what was appended.
pub written_read : ((config : Configuration) → HasNoFeed (written_header config)) → ((entry : Entry) → IsWellFormed entry → HasNoFeed (entry_line entry))
    → (m : Meaning) (entries : List Entry) → AreWellFormed entries
    → ReadsJournal m (Some (journal_text m.config entries)) (with_entries entries m)
written_read first plain m entries each =
    let texts = map entry_line entries in
    let header = written_header m.config in
    let bytes : journal_text m.config entries ≡ text_of_lines (header ∷ texts) ++ [] =
    ap (λ t. ended header ++ t) (sym (flat_map-map ended entry_line entries)) ∙ sym (append-nil (text_of_lines (header ∷ texts))) in
    let whole : (lines_of (journal_text m.config entries)).whole ≡ header ∷ texts =
    ap (λ l. (lines_of l).whole) bytes
    ∙ whole_of_texts (header ∷ texts) [] (first m.config, all_plain plain entries each) ∙ append-nil (header ∷ texts) in
    subst (λ ls. ReadsLines m ls (with_entries entries m)) (sym whole) (refl, record { entries = entries; each = each; spelt = refl; meaning = refl })
