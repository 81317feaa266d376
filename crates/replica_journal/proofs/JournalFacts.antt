-- A journal that is read line by line.
use Rattle.std.proofs.Common.{◌≡◌, ℕ, ◌+◌, List, [], ◌∷◌, ◌++◌, length, map, Option, None, Some, Result, Ok, Err, inr, refl, sym, ap, ◌∙◌, subst}
use Rattle.std.proofs.Common.{append_assoc, append-nil, length-append, arith, Bool, true, false}
use Rattle.std.specs.Prelude.{IfErr, IsErrAnd}
use Rattle.std.specs.List.{AllByRecursion}
use Rattle.std.specs.Io.KnownBytes.{Consumes, prepend_known}
use Rattle.std.proofs.KnownBytes.{Consumes-trans}
use Rattle.std.proofs.lemmas.Grind.{flat_map-append}
use Rattle.std.proofs.lemmas.List.{map-append}
use Rattle.std.proofs.lemmas.List.Sums.{fold-append}
use Rattle.fed_config.specs.Configuration.{Configuration}
use Rattle.byte_lines.specs.Lines.{HasLine, HasNoFeed, HasNoLine, lines_of}
use Rattle.byte_lines.proofs.StreamFacts.{lines_of-line, lines_of-rest}
use Rattle.receipt_core.specs.Acceptance.{Meaning, IsMeaning}
use Rattle.replica_core.specs.Absorbing.{with_entry}
use Rattle.replica_core.specs.declared.entry.Entry.{Entry}
use Rattle.replica_core.specs.declared.error.SyncError.{SyncError}
use Rattle.replica_core.specs.declared.error.SyncError.TheVariants.{BadHeader, ConfigDiffers, VersionDiffers, NotCanonical, NotRising, BadCount, Truncated}
use Rattle.replica_core.specs.declared.error.SyncError.TheVariants.{Refused, Io, NoMemory}
use Rattle.replica_texts.specs.Entries.{entry_line}
use Rattle.replica_texts.specs.Snapshots.{ended, text_of_lines}
use Rattle.replica_texts.specs.SoleLines.{IsWellFormed, RefusesSoleHeader, RefusesSoleLine, written_header}
use Rattle.replica_journal.specs.Journal.{HasBadEntry, HasBadStart, ReadsJournal, ReadsLines, RefusesJournal, RefusesJournalStart}
use Rattle.replica_journal.specs.Inside.JournalSteps.{FailsBehindLines, FailsStart, FindsStart, HasReadAll, HasReadPart}
use Rattle.replica_journal.specs.Inside.JournalSteps.{StepsOn, StepsThroughJournal}

-- ---- lines of a stream

-- Lines with their line feeds are the first lines of what begins with them.
pub whole_of_texts : (texts : List (List ℕ)) (after : List ℕ) → AllByRecursion HasNoFeed texts
    → (lines_of (text_of_lines texts ++ after)).whole ≡ texts ++ (lines_of after).whole
whole_of_texts [] after plain = refl
whole_of_texts (text ∷ texts) after plain =
    ap (λ l. (lines_of l).whole) (append_assoc (ended text) (text_of_lines texts) after)
    ∙ ap (λ ls. ls.whole) (lines_of-line text (text_of_lines texts ++ after) plain.0)
    ∙ ap (λ ls. text ∷ ls) (whole_of_texts texts after plain.1)

-- Bytes without a line feed have no whole line.
whole_of_rest : (rest : List ℕ) → HasNoFeed rest → (lines_of rest).whole ≡ []
whole_of_rest rest plain = ap (λ ls. ls.whole) (lines_of-rest rest plain)

-- If no line follows them, they are all whole lines.
pub all_whole : (bytes : List ℕ) (left : Option (List ℕ)) (texts : List (List ℕ)) → AllByRecursion HasNoFeed texts
    → Consumes (Some bytes) left (text_of_lines texts) → HasNoLine left → (lines_of bytes).whole ≡ texts
all_whole bytes None texts plain text ends = absurd text
all_whole bytes (Some rest) texts plain text ends =
    ap (λ l. (lines_of l).whole) text ∙ whole_of_texts texts rest plain
    ∙ ap (λ ls. texts ++ ls) (whole_of_rest rest ends) ∙ append-nil texts

-- a whole line after others, and those behind it
pub record HasLineBehind (bytes : List ℕ) (texts : List (List ℕ)) (text : List ℕ) : Type 0 where
  pub later : List (List ℕ)
  pub is : (lines_of bytes).whole ≡ texts ++ text ∷ later

-- A line that follows them is the whole line after them.
pub line_behind : (bytes : List ℕ) (left after : Option (List ℕ)) (texts : List (List ℕ)) (text : List ℕ) → AllByRecursion HasNoFeed texts
    → Consumes (Some bytes) left (text_of_lines texts) → HasLine left after text → HasLineBehind bytes texts text
line_behind bytes None after texts text plain taken line = absurd taken
line_behind bytes (Some rest) None texts text plain taken line = absurd line.1
line_behind bytes (Some rest) (Some more) texts text plain taken line = record {
  later = (lines_of more).whole;
  is = ap (λ l. (lines_of l).whole) taken ∙ whole_of_texts texts rest plain
      ∙ ap (λ l. texts ++ (lines_of l).whole) line.1
      ∙ ap (λ ls. texts ++ ls.whole) (lines_of-line text more line.0);
}

-- ---- line by line

-- Before the first line nothing of the stream is used up.
none_used : (stream : Option (List ℕ)) → Consumes stream stream []
none_used None = tt
none_used (Some bytes) = refl

-- What holds of all items, and of one more, holds of the longer list.
all_more : {A : Type 0} (P : A → Type 0) (xs : List A) (x : A) → AllByRecursion P xs → P x → AllByRecursion P (xs ++ x ∷ [])
all_more P [] x h k = (k, tt)
all_more P (y ∷ xs) x h k = (h.0, all_more P xs x h.1 k)

-- Before the first line nothing is read.
part_none : (m : Meaning) (stream : Option (List ℕ)) → HasReadPart m stream [] m stream
part_none m stream = record { each = tt; plain = tt; text = none_used stream; meaning = refl }

-- These were read, and this many lines with the first one.
pub record HasReadMore (m : Meaning) (stream : Option (List ℕ)) (read : ℕ) (now : Meaning) (left : Option (List ℕ)) : Type 0 where
  pub entries : List Entry
  pub part : HasReadPart m stream entries now left
  pub number : read ≡ length entries + 1

-- The loop begins after the first line: one line is read, and nothing of it is held. No file names
-- this lemma: the search finds it.
pub read_none : (m : Meaning) (stream : Option (List ℕ)) → HasReadMore m stream 1 m stream
read_none m stream = record { entries = []; part = part_none m stream; number = refl }

-- The text of one line more is the text and that line.
text_more : (texts : List (List ℕ)) (text : List ℕ) → text_of_lines (texts ++ text ∷ []) ≡ text_of_lines texts ++ ended text
text_more texts text = flat_map-append ended texts (text ∷ []) ∙ ap (λ t. text_of_lines texts ++ t) (append-nil (ended text))

-- One line more is one entry more.
read_step : (m : Meaning) (stream : Option (List ℕ)) (read then : ℕ) (now new : Meaning) (left after : Option (List ℕ))
    → HasReadMore m stream read now left → StepsOn now left new after → then ≡ read + 1 → HasReadMore m stream then new after
read_step m stream read then now new left after so_far step is_then =
    let entries = so_far.entries in
    let entry = step.takes.entry in
    let spelt = step.takes.is.spelt in
    let before = so_far.number in
    let longer : map entry_line (entries ++ entry ∷ []) ≡ map entry_line entries ++ step.text ∷ [] =
    map-append entry_line entries (entry ∷ []) ∙ ap (λ (t : List ℕ). map entry_line entries ++ t ∷ []) (sym spelt) in
    record {
      entries = entries ++ entry ∷ [];
      part = record {
        each = all_more IsWellFormed entries entry so_far.part.each step.takes.is.is;
        plain = subst (AllByRecursion HasNoFeed) (sym longer)
            (all_more HasNoFeed (map entry_line entries) step.text so_far.part.plain step.is.0);
        text = subst (λ ls. Consumes stream after (text_of_lines ls)) (sym longer)
            (subst (Consumes stream after) (sym (text_more (map entry_line entries) step.text))
            (Consumes-trans stream left after (text_of_lines (map entry_line entries)) (ended step.text) so_far.part.text step.is.1));
        meaning = step.takes.meaning ∙ ap (with_entry entry) so_far.part.meaning
            ∙ sym (fold-append (λ before e. with_entry e before) m entries (entry ∷ []));
      };
      number = omega (arith, length-append entries (entry ∷ []), before, is_then);
    }

-- The step of the loop.
pub read_more : (more : Bool) (m : Meaning) (stream : Option (List ℕ)) (read then : ℕ) (now new : Meaning) (left after : Option (List ℕ))
    → more ≡ true → HasReadMore m stream read now left → StepsThroughJournal now left new after more → then ≡ read + 1 → HasReadMore m stream then new after
read_more true m stream read then now new left after is so_far step is_then = read_step m stream read then now new left after so_far step is_then
read_more false m stream read then now new left after is so_far step is_then = absurd (cc)

-- The end of the loop: no whole line is left, so all of them are read. The search finds this lemma.
pub read_all : (more : Bool) (m : Meaning) (stream : Option (List ℕ)) (read : ℕ) (now new : Meaning) (left after : Option (List ℕ))
    → more ≡ false → HasReadMore m stream read now left → StepsThroughJournal now left new after more → IsMeaning new → HasReadAll m stream new
read_all true m stream read now new left after is so_far step valid = absurd (cc)
read_all false m stream read now new left after is so_far step valid =
    record {
      entries = so_far.entries;
      left = left;
      part = subst (λ (x : Meaning). HasReadPart m stream so_far.entries x left) (sym step.0) so_far.part;
      ends = step.1;
      valid = valid;
    }

-- A refusal of the line is one of the first line.
pub first_refused : (config : Configuration) (stream after : Option (List ℕ)) (text : List ℕ) (e : SyncError) → HasLine stream after text
    → RefusesSoleHeader config text e → FailsStart config stream e
first_refused config stream after text BadHeader line h = record { text = text; after = after; is = line; cause = inr h }
first_refused config stream after text ConfigDiffers line h = record { text = text; after = after; is = line; cause = inr h }
first_refused config stream after text VersionDiffers line h = record { text = text; after = after; is = line; cause = inr h }
first_refused config stream after text (NotCanonical n) line h = absurd h
first_refused config stream after text (NotRising n) line h = absurd h
first_refused config stream after text BadCount line h = absurd h
first_refused config stream after text Truncated line h = absurd h
first_refused config stream after text (Refused n why) line h = absurd h
first_refused config stream after text Io line h = absurd h
first_refused config stream after text NoMemory line h = absurd h

-- ---- the whole journal

-- The first line and those after it are used up in one.
start_used : (config : Configuration) (bytes : List ℕ) (s left : Option (List ℕ)) (texts : List (List ℕ)) → HasLine (Some bytes) s (written_header config)
    → Consumes s left (text_of_lines texts) → Consumes (Some bytes) left (text_of_lines (written_header config ∷ texts))
start_used config bytes s left texts start text =
    Consumes-trans (Some bytes) s left (ended (written_header config)) (text_of_lines texts) start.1 text

-- A journal that is read to its last whole line is read.
pub journal_read : (m now : Meaning) (stream s : Option (List ℕ)) → HasLine stream s (written_header m.config) → HasReadAll m s now
    → ReadsJournal m stream now
journal_read m now None s start all = tt
journal_read m now (Some bytes) s start all =
    let texts = map entry_line all.entries in
    subst (λ ls. ReadsLines m ls now)
    (sym (all_whole bytes all.left (written_header m.config ∷ texts) (start.0, all.part.plain)
    (start_used m.config bytes s all.left texts start all.part.text) all.ends))
    (refl, record { entries = all.entries; each = all.part.each; spelt = refl; meaning = all.part.meaning })

-- One without a whole line says nothing.
pub journal_none : (m : Meaning) (stream : Option (List ℕ)) → HasNoLine stream → ReadsJournal m stream m
journal_none m None ends = tt
journal_none m (Some bytes) ends = subst (λ ls. ReadsLines m ls m) (sym (whole_of_rest bytes ends)) refl

-- A first line that has an error is the first whole line.
start_fault : (m : Meaning) (bytes text : List ℕ) (after : Option (List ℕ)) (e : SyncError) → HasLine (Some bytes) after text
    → RefusesJournalStart m.config text e → HasBadStart m.config (lines_of bytes).whole e
start_fault m bytes text after e line cause =
    let behind = line_behind bytes (Some bytes) after [] text tt (none_used (Some bytes)) line in
    record { text = text; later = behind.later; is = behind.is; cause = cause }

-- Why the first line was not read is why the journal is refused.
pub start_refused : (m : Meaning) (stream : Option (List ℕ)) (e : SyncError) → FailsStart m.config stream e → RefusesJournal m stream e
start_refused m None e h = tt
start_refused m (Some bytes) BadHeader h = start_fault m bytes h.text h.after BadHeader h.is h.cause
start_refused m (Some bytes) ConfigDiffers h = start_fault m bytes h.text h.after ConfigDiffers h.is h.cause
start_refused m (Some bytes) VersionDiffers h = start_fault m bytes h.text h.after VersionDiffers h.is h.cause
start_refused m (Some bytes) (NotCanonical n) h = absurd h
start_refused m (Some bytes) (NotRising n) h = absurd h
start_refused m (Some bytes) BadCount h = absurd h
start_refused m (Some bytes) Truncated h = absurd h
start_refused m (Some bytes) (Refused n why) h = absurd h
start_refused m (Some bytes) Io h = tt
start_refused m (Some bytes) NoMemory h = tt

-- A line that has an error, after lines that have none, is the first one.
entry_fault : (m now : Meaning) (bytes : List ℕ) (s left after : Option (List ℕ)) (entries : List Entry) (text : List ℕ) (e : SyncError)
    → HasLine (Some bytes) s (written_header m.config) → HasReadPart m s entries now left → IsMeaning now
    → HasLine left after text → RefusesSoleLine now (1 + length entries + 1) text e → HasBadEntry m (lines_of bytes).whole e
entry_fault m now bytes s left after entries text e start part valid line cause =
    let texts = map entry_line entries in
    let behind = line_behind bytes left after (written_header m.config ∷ texts) text (start.0, part.plain)
    (start_used m.config bytes s left texts start part.text) line in
    let number : 1 + length entries + 1 ≡ length entries + 2 = omega arith in
    record {
      before = entries;
      text = text;
      later = behind.later;
      each = part.each;
      valid = subst IsMeaning part.meaning valid;
      is = behind.is;
      cause = subst (λ (x : Meaning). RefusesSoleLine x (length entries + 2) text e) part.meaning
          (subst (λ n. RefusesSoleLine now n text e) number cause);
    }

-- Why the lines were not read to their end is why the journal is refused.
pub lines_refused : (m : Meaning) (stream s : Option (List ℕ)) (e : SyncError) → HasLine stream s (written_header m.config)
    → FailsBehindLines m 1 s e → RefusesJournal m stream e
lines_refused m None s e start h = tt
lines_refused m (Some bytes) s BadHeader start h = absurd h.cause
lines_refused m (Some bytes) s ConfigDiffers start h = absurd h.cause
lines_refused m (Some bytes) s VersionDiffers start h = absurd h.cause
lines_refused m (Some bytes) s (NotCanonical n) start h =
    entry_fault m h.now bytes s h.left h.cause.after h.entries h.cause.text (NotCanonical n) start h.part h.valid h.cause.is h.cause.cause
lines_refused m (Some bytes) s (NotRising n) start h = absurd h.cause
lines_refused m (Some bytes) s BadCount start h = absurd h.cause
lines_refused m (Some bytes) s Truncated start h = absurd h.cause
lines_refused m (Some bytes) s (Refused n why) start h =
    entry_fault m h.now bytes s h.left h.cause.after h.entries h.cause.text (Refused n why) start h.part h.valid h.cause.is h.cause.cause
lines_refused m (Some bytes) s Io start h = tt
lines_refused m (Some bytes) s NoMemory start h = tt

-- ---- the whole call

-- If nothing was read ahead, the stream is the source's.
pub unread : (known : Option (List ℕ)) (kept : List ℕ) → kept ≡ [] → prepend_known kept known ≡ known
unread None kept e = refl
unread (Some xs) kept e = ap (λ k. Some (k ++ xs)) e

-- The first line was not read.
pub call_starts_badly : (m : Meaning) (config : Configuration) (known s : Option (List ℕ)) (e : SyncError) → config ≡ m.config → s ≡ known
    → FailsStart config s e → RefusesJournal m known e
call_starts_badly m config known s e own same fails =
    start_refused m known e (subst (λ x. FailsStart m.config x e) same (subst (λ k. FailsStart k s e) own fails))

-- the first line, if it is whole
whole_start : (whole : Bool) (m : Meaning) (config : Configuration) (known s t : Option (List ℕ)) → whole ≡ true → config ≡ m.config → s ≡ known
    → FindsStart config s t whole → HasLine known t (written_header m.config)
whole_start true m config known s t is own same found =
    subst (λ x. HasLine x t (written_header m.config)) same (subst (λ k. HasLine s t (written_header k)) own found)
whole_start false m config known s t is own same found = absurd (cc)

-- A line after the first one was not read.
pub call_stops : (whole : Bool) (m : Meaning) (config : Configuration) (known s t : Option (List ℕ)) (e : SyncError) → whole ≡ true → config ≡ m.config
    → s ≡ known → FindsStart config s t whole → FailsBehindLines m 1 t e → RefusesJournal m known e
call_stops whole m config known s t e is own same found fails = lines_refused m known t e (whole_start whole m config known s t is own same found) fails

-- All lines were read.
pub call_reads : (whole : Bool) (m now : Meaning) (config : Configuration) (known s t : Option (List ℕ)) → whole ≡ true → config ≡ m.config → s ≡ known
    → FindsStart config s t whole → HasReadAll m t now → ReadsJournal m known now
call_reads whole m now config known s t is own same found all = journal_read m now known t (whole_start whole m config known s t is own same found) all

-- There was no whole line.
pub call_reads_none : (whole : Bool) (m : Meaning) (config : Configuration) (known s t : Option (List ℕ)) → whole ≡ false → s ≡ known
    → FindsStart config s t whole → ReadsJournal m known m
call_reads_none true m config known s t is same found = absurd (cc)
call_reads_none false m config known s t is same found = journal_none m known (subst HasNoLine same found)

-- ---- results

-- What holds of an error holds of the result that the exit of a `?` returns.
pub refused_as : {T : Type 0} (r : Result T SyncError) (Q : SyncError → Type 0) (e : SyncError) → IsErrAnd r (λ y. y ≡ e) → Q e → IfErr r Q
refused_as (Ok value) Q e is q = tt
refused_as (Err y) Q e is q = subst Q (sym is) q
