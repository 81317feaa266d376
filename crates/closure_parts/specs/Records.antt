-- Records of distrust by the numbers of domains
use Rattle.std.specs.Prelude.{◌≡◌, ℕ, ◌<◌, ◌≤◌, List, length, Contains}
use Rattle.std.specs.declared.cmp.Ordering.{Ordering}
use Rattle.std.specs.Ordering.{nat_cmp, ordering_then}
use Rattle.std.specs.List.Sorted.{IsStrictlySortedBy}
use Rattle.receipt_core.specs.Receipt.{key_cmp}
use Rattle.receipt_core.specs.Rising.{with_item}
use Rattle.closure_core.specs.declared.record.Record.{Record}
use Rattle.closure_parts.specs.declared.records.Insertion.{Insertion}
use Rattle.closure_parts.specs.declared.records.Insertion.TheVariants.{Added, There, Full}

-- records are ordered by key, and then by the numbers of their domains
abbrev pub record_cmp : Record → Record → Ordering
record_cmp a b = ordering_then (key_cmp a.key b.key) (nat_cmp a.domain b.domain)

-- records, and how many there may be
pub record KeptRecords : Type 0 where
  pub records : List Record
  pub limit : ℕ

-- They rise and are not too many, and there is room for all that may be held.
pub record AreRecords (kept : KeptRecords) (capacity : ℕ) : Type 0 where
  pub rising : IsStrictlySortedBy record_cmp kept.records
  pub few : length kept.records ≤ kept.limit
  pub room : kept.limit ≤ capacity

-- It is held now, and was not.
pub record IsAdded (old : KeptRecords) (r : Record) (new : KeptRecords) : Type 0 where
  pub unheld : Contains old.records r → ⊥
  pub few : length old.records < old.limit
  pub now : new ≡ record old { records = with_item record_cmp r old.records }

-- There is no place for it.
pub record IsPast (old : KeptRecords) (r : Record) (new : KeptRecords) : Type 0 where
  pub unheld : Contains old.records r → ⊥
  pub full : old.limit ≤ length old.records
  pub now : new ≡ old

abbrev pub InsertsRecord : KeptRecords → Record → KeptRecords → Insertion → Type 0
InsertsRecord old r new Added = IsAdded old r new
InsertsRecord old r new There = Contains old.records r × (new ≡ old)
InsertsRecord old r new Full = IsPast old r new
