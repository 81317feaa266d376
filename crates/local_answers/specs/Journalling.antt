-- What is appended to the journal for a change: the lines of what is held now and was not before.
use Rattle.std.specs.Prelude.{◌≡◌, ◌≢◌, ◌⊎◌, ℕ, ◌+◌, List, [], ◌∷◌, length, flat_map, Contains}
use Rattle.std.specs.Prelude.{Option, None, Some}
use Rattle.std.specs.List.{AllByRecursion}
use Rattle.jwk_set.specs.declared.authority.KeyId.{KeyId}
use Rattle.receipt_core.specs.Acceptance.{Meaning}
use Rattle.receipt_core.specs.Receipt.{Receipt}
use Rattle.closure_core.specs.Changes.{union_of}
use Rattle.closure_core.specs.Refusals.{all_receipts}
use Rattle.replica_core.specs.Absorbing.{of_records, with_entries}
use Rattle.replica_core.specs.declared.entry.Entry.{Entry}
use Rattle.replica_core.specs.declared.entry.Entry.TheVariants.{Record, Receipt as AReceipt}
use Rattle.replica_journal.specs.Journal.{AreWellFormed, entry_text}
use Rattle.distrust_view.specs.declared.given_keys.GivenKeys.{GivenKeys}
use Rattle.change_view.specs.Changes.{IsObservedBundle, SaysNow}
use Rattle.change_view.specs.declared.held_change.DistrustedKeys.{DistrustedKeys}
use Rattle.change_view.specs.declared.held_change.HeldChange.{HeldChange}
use Rattle.change_view.specs.declared.held_change.HeldChange.TheVariants as held
use Rattle.change_view.specs.declared.held_change.NewEntries.{NewEntries}
use Rattle.change_view.specs.declared.held_change.ObservedBundle.{ObservedBundle}
use Rattle.fedbundle.specs.CommandRun.{StateRun}
use Rattle.fedbundle.specs.Distrust.{records_for, with_distrusted}
use Rattle.local_answers.specs.declared.reply.Reply.{Reply}

-- it is held
abbrev pub HoldsEntry : Meaning → Entry → Type 0
HoldsEntry m (Record x) = Contains m.records x
HoldsEntry m (AReceipt r) = Contains m.held r

-- The text is the lines of these, which are receipts and records of their form that are not held.
pub record AreNewLines (m : Meaning) (entries : List Entry) (text : List ℕ) : Type 0 where
  pub each : AreWellFormed entries
  pub fresh : AllByRecursion (λ e. HoldsEntry m e → ⊥) entries
  pub spelt : text ≡ flat_map entry_text entries

-- The text is the lines of what is held now and was not before. If nothing has changed it is empty.
-- A journal that has it at its end is read as what is held now (`replica_journal::laws::journals`).
pub record JournalsChange (text : List ℕ) (state : StateRun) : Type 0 where
  pub entries : List Entry
  pub lines : AreNewLines state.old.meaning entries text
  pub meaning : state.new.meaning ≡ with_entries entries state.old.meaning

-- The text is the lines of what the other holds and m does not; this many are receipts.
pub record AreLinesOfOther (m other : Meaning) (text : List ℕ) (receipts : ℕ) : Type 0 where
  pub entries : List Entry
  pub lines : AreNewLines m entries text
  pub union : with_entries entries m ≡ union_of m other
  pub count : length (all_receipts m other) ≡ length m.held + receipts

-- The text is the lines of the records for those of the keys that are not distrusted, which are
-- these.
pub record AreLinesOfKeys (m : Meaning) (given : GivenKeys) (text : List ℕ) (keys : List KeyId)
    : Type 0 where
  pub lines : AreNewLines m (of_records (records_for given.domain keys)) text
  pub all : with_entries (of_records (records_for given.domain keys)) m ≡ with_distrusted given m

-- The text is the line of this entry, or empty if that is held.
pub record IsLineIfNew (m : Meaning) (entry : Entry) (text : List ℕ) : Type 0 where
  pub whole : (text ≡ []) ⊎ (text ≡ entry_text entry)
  pub entries : List Entry
  pub lines : AreNewLines m entries text
  pub meaning : with_entries entries m ≡ with_entries (entry ∷ []) m

-- ---- what is reported

-- The text is the line of a receipt, and that is reported of what is held now.
pub record SaysObserved (m : Meaning) (text : List ℕ) (o : ObservedBundle) : Type 0 where
  pub receipt : Receipt
  pub line : text ≡ entry_text (AReceipt receipt)
  pub parts : IsObservedBundle receipt o
  pub now : SaysNow m o.domain o.document o.is_current

-- The text is the lines of the records for the keys.
abbrev pub SaysDistrustedKeys : List ℕ → DistrustedKeys → Type 0
SaysDistrustedKeys text k =
    text ≡ flat_map entry_text (of_records (records_for k.domain k.keys.items))

-- These are the numbers of receipts and records that are held and were not.
pub record SaysMerged (old new : Meaning) (n : NewEntries) : Type 0 where
  pub receipts : length new.held ≡ length old.held + n.receipts
  pub records : length new.records ≡ length old.records + n.records

abbrev pub SaysChange : StateRun → List ℕ → HeldChange → Type 0
SaysChange state text (held.Observe o) = SaysObserved state.new.meaning text o
SaysChange state text (held.Distrust k) = SaysDistrustedKeys text k
SaysChange state text (held.Merge n) = SaysMerged state.old.meaning state.new.meaning n
SaysChange state text (held.Pull peer n) = ⊥

-- Without lines nothing is reported, and lines are never without a report.
abbrev pub ReportsLines : StateRun → List ℕ → Option HeldChange → Type 0
ReportsLines state text None = text ≡ []
ReportsLines state text (Some change) = (text ≢ []) × SaysChange state text change

-- What has changed is what the lines of the reply say, and what it reports.
pub record RepliesChange (reply : Reply) (state : StateRun) : Type 0 where
  pub journals : JournalsChange reply.journal.items state
  pub reports : ReportsLines state reply.journal.items reply.change

-- Nothing is journalled or reported.
pub record IsSilent (reply : Reply) : Type 0 where
  pub unjournalled : reply.journal.items ≡ []
  pub unreported : reply.change ≡ None
