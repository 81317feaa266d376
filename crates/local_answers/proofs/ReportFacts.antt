-- What is reported of a change, by what was done.
use Rattle.std.proofs.Common.{◌≡◌, ◌⊎◌, ℕ, ◌+◌, inl, inr, List, [], ◌∷◌, ◌++◌, length, flat_map, Option, None, Some, refl, sym, ap, ◌∙◌, subst}
use Rattle.std.specs.Prelude.{◌≢◌, ◌↔◌, ◌≤◌, IfSome, IsNone}
use Rattle.jwk_set.specs.declared.authority.KeyId.{KeyId}
use Rattle.receipt_core.specs.Acceptance.{Meaning}
use Rattle.receipt_core.specs.Receipt.{Receipt, distrust_cmp}
use Rattle.closure_core.specs.Changes.{HeldAndRoom, HasMergedInRoom}
use Rattle.replica_core.specs.Absorbing.{of_records}
use Rattle.replica_core.specs.declared.entry.Entry.{Entry}
use Rattle.replica_core.specs.declared.entry.Entry.TheVariants.{Receipt as AReceipt}
use Rattle.replica_journal.specs.Journal.{entry_text}
use Rattle.replica_sync.proofs.PullingFacts.{longer_with_items}
use Rattle.change_view.specs.Changes.{IsObservedBundle}
use Rattle.change_view.specs.declared.held_change.HeldChange.{HeldChange}
use Rattle.change_view.specs.declared.held_change.HeldChange.TheVariants.{Distrust, Merge, Observe}
use Rattle.change_view.specs.declared.held_change.NewEntries.{NewEntries}
use Rattle.change_view.specs.declared.held_change.ObservedBundle.{ObservedBundle}
use Rattle.distrust_view.specs.declared.given_keys.GivenKeys.{GivenKeys}
use Rattle.fedbundle.specs.CommandRun.{state_run}
use Rattle.fedbundle.specs.Distrust.{records_for, with_distrusted}
use Rattle.local_answers.specs.Inside.ReplySteps.{IsObservedNow, IsOfKeys, IsSameNow, SaysFallen, said_texts}
use Rattle.local_answers.specs.Journalling.{AreLinesOfKeys, AreLinesOfOther, IsLineIfNew, JournalsChange, ReportsLines, SaysChange, SaysMerged}
use Rattle.local_answers.specs.Fallen.{AreAcceptedCounts}
use Rattle.local_answers.specs.Replies.{first_line}
use Rattle.local_answers.specs.RequestRun.{HasBoth, IsWith, SaysAll, SaysEffect, named_keys, unsaid_fall}
use Rattle.local_answers.specs.declared.changing_replies.Sayings.{Sayings}
use Rattle.local_answers.specs.declared.fallen_counts.DomainCount.{DomainCount}
use Rattle.local_answers.specs.declared.reply.Reply.{Reply}
use Rattle.local_answers.proofs.NewLineFacts.{no_entries}

-- what is reported of a bundle is of its receipt
observed_parts : (m : Meaning) (r : Receipt) (made o : ObservedBundle) → IsObservedBundle r made → IsSameNow m made o → IsObservedBundle r o
observed_parts m r made o parts same = record {
  domain = same.domain ∙ parts.domain;
  document = ap (λ d. d.0) same.document ∙ parts.document;
  sequence = same.sequence ∙ parts.sequence;
  key = same.key ∙ parts.key;
  voucher = same.voucher ∙ parts.voucher;
}

-- what is there is not missing
some_there : (change : HeldChange) → IsNone (Some change) → ⊥
some_there change none = cc

-- a line that is not empty is that of the entry
whole_line : (entry : Entry) (text : List ℕ) → (text ≡ []) ⊎ (text ≡ entry_text entry) → text ≢ [] → text ≡ entry_text entry
whole_line entry text (inl none) some = absurd (some none)
whole_line entry text (inr line) some = line

-- the report of a receipt that is held now
pub observe_reports : (old new : HeldAndRoom) (r : Receipt) (text : List ℕ) (made : ObservedBundle) (change : Option HeldChange)
    → IsLineIfNew old.meaning (AReceipt r) text → IsObservedBundle r made → (IsNone change ↔ (text ≡ []))
    → IfSome change (IsObservedNow new.meaning made) → ReportsLines (state_run old new) text change
observe_reports old new r text made None line parts none now = none.0 refl
observe_reports old new r text made (Some (Observe o)) line parts none now = (
  λ empty. some_there (Observe o) (none.1 empty),
  record {
    receipt = r;
    line = whole_line (AReceipt r) text line.whole (λ empty. some_there (Observe o) (none.1 empty));
    parts = observed_parts new.meaning r made o parts now;
    now = now.now;
  },
)
observe_reports old new r text made (Some change) line parts none now = absurd now

-- what came with a merge
pub merged_counts : (old new : HeldAndRoom) (other : Meaning) (text : List ℕ) (receipts records count : ℕ)
    → AreLinesOfOther old.meaning other text receipts → HasMergedInRoom old other new count
    → length new.meaning.records ≡ length old.meaning.records + records
    → SaysMerged old.meaning new.meaning (record { receipts = receipts; records = records })
merged_counts old new other text receipts records count lines merged more = record {
  receipts = ap (λ (m : Meaning). length m.held) merged.merged.meaning ∙ lines.count;
  records = more;
}

-- no record goes by a merge
pub records_stay : (old new : HeldAndRoom) (other : Meaning) (count : ℕ) → HasMergedInRoom old other new count
    → length old.meaning.records ≤ length new.meaning.records
records_stay old new other count merged =
    subst (λ (m : Meaning). length old.meaning.records ≤ length m.records) (sym merged.merged.meaning)
    (longer_with_items distrust_cmp other.records old.meaning.records)

-- the report of a merge
pub merge_reports : (old new : HeldAndRoom) (text : List ℕ) (n : NewEntries) (change : Option HeldChange) → (IsNone change ↔ (text ≡ []))
    → IfSome change (λ c. c ≡ Merge n) → SaysMerged old.meaning new.meaning n → ReportsLines (state_run old new) text change
merge_reports old new text n None none is counts = none.0 refl
merge_reports old new text n (Some change) none is counts = (
  λ empty. some_there change (none.1 empty),
  subst (SaysChange (state_run old new) text) (sym is) counts,
)

-- without a record there was no key
no_keys : (domain : List ℕ) (keys : List KeyId) → of_records (records_for domain keys) ≡ [] → keys ≡ []
no_keys domain [] none = refl
no_keys domain (key ∷ keys) none = cc

-- the report of keys that are distrusted now
pub distrust_reports : (old new : HeldAndRoom) (domain : List ℕ) (keys : List KeyId) (text : List ℕ) (change : Option HeldChange)
    → text ≡ flat_map entry_text (of_records (records_for domain keys)) → (IsNone change ↔ (keys ≡ [])) → IfSome change (IsOfKeys domain keys)
    → ReportsLines (state_run old new) text change
distrust_reports old new domain keys text None spelt none are =
    spelt ∙ ap (λ (ks : List KeyId). flat_map entry_text (of_records (records_for domain ks))) (none.0 refl)
distrust_reports old new domain keys text (Some (Distrust k)) spelt none are = (
  λ empty. some_there (Distrust k) (none.1 (no_keys domain keys (no_entries (of_records (records_for domain keys)) (sym empty ∙ spelt)))),
  spelt ∙ (λ i. flat_map entry_text (of_records (records_for (sym are.0 i) (sym are.1 i)))),
)
distrust_reports old new domain keys text (Some change) spelt none are = absurd are

-- the lines of keys that are distrusted now
pub distrust_journals : (old new : HeldAndRoom) (given : GivenKeys) (text : List ℕ) (keys : List KeyId)
    → AreLinesOfKeys old.meaning given text keys → new.meaning ≡ with_distrusted given old.meaning → JournalsChange text (state_run old new)
distrust_journals old new given text keys lines held =
    record { entries = of_records (records_for given.domain keys); lines = lines.lines; meaning = held ∙ sym lines.all }

-- what is said of keys that are distrusted now
pub says_all : (old new : HeldAndRoom) (given : GivenKeys) (sayings : Sayings) (named errors : List ℕ) (before : List DomainCount) (reply : Reply)
    → SaysEffect old.meaning given sayings.is_verbose errors → named ≡ named_keys given sayings.names_keys → AreAcceptedCounts old.meaning before
    → SaysFallen new.meaning before (said_texts named errors) reply → SaysAll (state_run old new) given sayings reply
says_all old new given sayings named errors before reply said are counted fallen = record {
  errors = errors;
  said = said;
  before = before;
  counted = counted;
  fell = fallen.fell;
  is_fell = fallen.is;
  has = record {
    head = fallen.has.head ∙ ap (λ t. first_line (t ++ fallen.fell) errors 0) are;
    is_output = fallen.has.output ∙ ap (λ t. t ++ fallen.fell) are;
    is_errors = fallen.has.errors;
    status = fallen.has.status;
    continues = fallen.has.continues;
  };
}

-- if there was no memory for it
pub says_unsaid : (reply : Reply) (output errors : List ℕ) → output ≡ [] → errors ≡ unsaid_fall → IsWith reply output errors 0
    → HasBoth reply [] unsaid_fall
says_unsaid reply output errors none is with = record {
  head = with.head ∙ (λ i. first_line (none i) (is i) 0);
  is_output = with.output ∙ none;
  is_errors = with.errors ∙ is;
  status = with.status;
  continues = with.continues;
}
