-- The lines of what another replica holds, receipts and records apart
use Rattle.std.specs.Prelude.{◌≡◌, ℕ, ◌+◌, ◌≤◌, List, ◌++◌, length, flat_map, Contains}
use Rattle.jwk_set.specs.declared.authority.KeyId.{KeyId}
use Rattle.std.specs.declared.cmp.Ordering.{Ordering}
use Rattle.std.specs.List.{AllByRecursion}
use Rattle.std.specs.List.Sorted.{IsStrictlySortedBy}
use Rattle.receipt_core.specs.declared.distrust.Distrust.{Distrust}
use Rattle.receipt_core.specs.Acceptance.{Meaning}
use Rattle.receipt_core.specs.Receipt.{Receipt, IsDistrust, IsReceipt, receipt_cmp, distrust_cmp}
use Rattle.receipt_core.specs.Rising.{with_items}
use Rattle.closure_core.specs.Refusals.{all_receipts, all_records}
use Rattle.replica_core.specs.Absorbing.{of_receipts, of_records}
use Rattle.replica_journal.specs.Journal.{entry_text}
use Rattle.fedbundle.specs.Distrust.{records_for}
use Rattle.local_answers.specs.Journalling.{AreNewLines}
use Rattle.receipt_core.specs.Limits.{most_receipts}

-- From all items, these are new to the set, and the rest is still to be looked at.
pub record IsSifted {X : Type 0} (P : X → Type 0) (cmp : X → X → Ordering)
    (set all rest new : List X) : Type 0 where
  pub joined : with_items cmp (new ++ rest) set ≡ with_items cmp all set
  pub rising : IsStrictlySortedBy cmp (new ++ rest)
  pub form : AllByRecursion P (new ++ rest)
  pub fresh : AllByRecursion (λ x. Contains set x → ⊥) new

-- The text is the lines of the receipts so far that are not held.
pub record SiftsReceipts (m : Meaning) (all rest : List Receipt) (text : List ℕ)
    (count : ℕ) : Type 0 where
  pub new : List Receipt
  pub sifted : IsSifted IsReceipt receipt_cmp m.held all rest new
  pub spelt : text ≡ flat_map entry_text (of_receipts new)
  pub counted : count ≡ length new
  pub few : count + length rest ≤ most_receipts

-- the same for records
pub record SiftsRecords (m : Meaning) (all rest : List Distrust) (text : List ℕ) : Type 0 where
  pub new : List Distrust
  pub sifted : IsSifted IsDistrust distrust_cmp m.records all rest new
  pub spelt : text ≡ flat_map entry_text (of_records new)

-- The text is the lines of the other's receipts that are not held, and this is their number.
pub record AreReceiptLines (m other : Meaning) (text : List ℕ) (count : ℕ) : Type 0 where
  pub new : List Receipt
  pub form : AllByRecursion IsReceipt new
  pub fresh : AllByRecursion (λ r. Contains m.held r → ⊥) new
  pub spelt : text ≡ flat_map entry_text (of_receipts new)
  pub all : with_items receipt_cmp new m.held ≡ all_receipts m other
  pub counted : length (all_receipts m other) ≡ length m.held + count

-- the same for records
pub record AreRecordLines (m other : Meaning) (text : List ℕ) : Type 0 where
  pub new : List Distrust
  pub form : AllByRecursion IsDistrust new
  pub fresh : AllByRecursion (λ x. Contains m.records x → ⊥) new
  pub spelt : text ≡ flat_map entry_text (of_records new)
  pub all : with_items distrust_cmp new m.records ≡ all_records m other

-- keys of a domain, and those of them that are still to be looked at
pub record KeysLeft : Type 0 where
  pub domain : List ℕ
  pub all : List KeyId
  pub rest : List KeyId

abbrev pub keys_left : List ℕ → List KeyId → List KeyId → KeysLeft
keys_left domain all rest = record { domain = domain; all = all; rest = rest }

-- The text is the lines of the records for the keys so far that are not distrusted, which are new.
pub record SiftsKeys (m : Meaning) (left : KeysLeft) (text : List ℕ) (new : List KeyId)
    : Type 0 where
  pub joined : with_items distrust_cmp (records_for left.domain (new ++ left.rest)) m.records
      ≡ with_items distrust_cmp (records_for left.domain left.all) m.records
  pub lines : AreNewLines m (of_records (records_for left.domain new)) text
