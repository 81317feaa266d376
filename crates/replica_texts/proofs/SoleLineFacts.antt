-- A single line is one after no other line.
use Rattle.std.proofs.Common.{◌≢◌, ℕ, List, [], inl, inr, refl, sym, subst}
use Rattle.std.proofs.lemmas.List.Elements.{All-from_recursion}
use Rattle.fed_config.specs.Configuration.{Configuration}
use Rattle.byte_lines.specs.Lines.{HasNoFeed}
use Rattle.receipt_core.specs.Receipt.{line, distrust_line}
use Rattle.receipt_core.specs.Acceptance.{Meaning}
use Rattle.closure_core.specs.declared.error.TakeError.{TakeError}
use Rattle.replica_core.specs.declared.entry.Entry.{Entry}
use Rattle.replica_core.specs.declared.entry.Entry.TheVariants.{Record, Receipt as AReceipt}
use Rattle.replica_core.specs.declared.error.SyncError.{SyncError}
use Rattle.replica_core.specs.declared.error.SyncError.TheVariants.{BadHeader, ConfigDiffers, VersionDiffers, NotCanonical, NotRising, BadCount, Truncated}
use Rattle.replica_core.specs.declared.error.SyncError.TheVariants.{Refused, Io, NoMemory}
use Rattle.replica_texts.specs.declared.entry_line.Wanted.TheVariants.{Either}
use Rattle.replica_texts.specs.Entries.{IsAbove, IsRefused, RefusesEntryLine, entry_line, placed_line}
use Rattle.replica_texts.specs.Inside.EntrySteps.{HasRefusedLine, TakesEntryText}
use Rattle.replica_texts.specs.declared.format.Format.TheVariants.{Second}
use Rattle.replica_texts.specs.Snapshots.{header_line}
use Rattle.replica_texts.specs.SoleLines.{HasRefusedSoleLine, IsRefusedEntry, IsWellFormed, RefusesSoleLine, TakesSoleLine, written_header}
use Rattle.replica_texts.proofs.FeedFacts.{feedless_line, feedless_record}
use Rattle.replica_texts.proofs.DigestFacts.{feedless_first}

-- Each line is above the empty text, which means that no line came before.
above_none : (entry : Entry) → IsAbove [] (entry_line entry)
unfolding line distrust_line
above_none (Record x) = refl
above_none (AReceipt r) = refl

-- What is taken after no line is taken as a single line.
pub sole_taken : (old : Meaning) (text : List ℕ) (new : Meaning) (count : ℕ) → TakesEntryText Either old [] text new count
    → TakesSoleLine old text new count
sole_taken old text new count t = record { entry = t.entry; is = t.next.is; meaning = t.taken.meaning; more = t.taken.more }

-- What is refused after no line is refused as a single line.
refused_alone : (m : Meaning) (text : List ℕ) (why : TakeError) → IsRefused Either m [] text why → IsRefusedEntry m text why
refused_alone m text why h = record { entry = h.entry; is = h.next.is; cause = h.cause }

-- The causes are those of a single line; the first of all lines is above the one before.
sole_cause : (m : Meaning) (number : ℕ) (text : List ℕ) (e : SyncError) → RefusesEntryLine m (placed_line Either [] number text) e
    → RefusesSoleLine m number text e
sole_cause m number text BadHeader h = h
sole_cause m number text ConfigDiffers h = h
sole_cause m number text VersionDiffers h = h
sole_cause m number text (NotCanonical n) h = h
sole_cause m number text (NotRising n) h =
    absurd (h.1.below (subst (IsAbove []) (sym h.1.is.spelt) (above_none h.1.entry)))
sole_cause m number text BadCount h = h
sole_cause m number text Truncated h = h
sole_cause m number text (Refused n why) h = (h.0, h.1, refused_alone m text why h.2)
sole_cause m number text Io h = h
sole_cause m number text NoMemory h = elim h [ inl short ↦ inl short | inr refused ↦ inr (refused_alone m text _ refused) ]

-- A refusal after no line is one of a single line.
pub sole_refused : (old : Meaning) (number : ℕ) (text : List ℕ) (new : Meaning) (e : SyncError) → HasRefusedLine Either old [] number text new e
    → HasRefusedSoleLine old (record { number = number; text = text }) new e
sole_refused old number text new e h = record { cause = sole_cause old number text e h.cause; same = h.same }

-- ---- line feeds

-- A first line has none.
pub first_plain : (config : Configuration) → HasNoFeed (written_header config)
first_plain config = All-from_recursion (λ b. b ≢ 10) (header_line Second config) (feedless_first Second config)

-- The line of a receipt or a record has none.
pub entry_plain : (entry : Entry) → IsWellFormed entry → HasNoFeed (entry_line entry)
entry_plain (Record x) is = All-from_recursion (λ b. b ≢ 10) (distrust_line x) (feedless_record x)
entry_plain (AReceipt r) is = All-from_recursion (λ b. b ≢ 10) (line r) (feedless_line r is)
