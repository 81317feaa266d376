-- What is held: a configuration, receipts and records of distrust
use Rattle.std.specs.Prelude.{◌≡◌, ℕ, ◌<◌, ◌≤◌, List, [], ◌++◌, map, length, Contains, Result, Ok}
use Rattle.std.specs.Prelude.{Err, MatchResult, Option, Some, None, IfSome, min}
use Rattle.std.specs.Prelude.{slice_index_or}
use Rattle.std.specs.declared.cmp.Ordering.{Ordering}
use Rattle.std.specs.Ordering.{nat_cmp, ordering_then}
use Rattle.std.specs.List.{AllByRecursion}
use Rattle.std.specs.List.Sorted.{IsStrictlySortedBy}
use Rattle.fed_config.specs.Configuration.{Configuration, IsConfiguration, HasDomain, domain_cmp}
use Rattle.jwk_set.specs.declared.authority.KeyId.{KeyId}
use Rattle.receipt_core.specs.declared.distrust.Distrust.{Distrust}
use Rattle.receipt_core.specs.declared.triple.Triple.{Triple}
use Rattle.receipt_core.specs.Receipt.{Receipt, IsReceipt, IsDigest, receipt_cmp, receipt_id_of}
use Rattle.receipt_core.specs.Receipt.{with_distrust, distrust_cmp}
use Rattle.receipt_core.specs.Rising.{with_items}
use Rattle.receipt_core.specs.Acceptance.{IsFitting, Meaning}
use Rattle.sorted_order.specs.Sought.{IsMissing}
use Rattle.sorted_order.specs.Sequence.{Sequence}
use Rattle.sorted_order.specs.ArenaView.{ArenaView, Arranges, in_order, picked}
use Rattle.closure_parts.specs.Records.{record_cmp, KeptRecords}
use Rattle.closure_core.specs.Inside.Records.{AreWithin}
use Rattle.closure_core.specs.Refusals.{IsOfUnknownDomain, IsOfWrongEndpoint, IsBelowFloor}
use Rattle.closure_core.specs.Refusals.{IsOneTooMany, RefusesDistrust}
use Rattle.closure_core.specs.declared.error.TakeError.{TakeError}
use Rattle.closure_core.specs.declared.error.TakeError.TheVariants.{UnknownDomain, WrongEndpoint}
use Rattle.closure_core.specs.declared.error.TakeError.TheVariants.{BelowFloor, Full}
use Rattle.closure_parts.specs.declared.held.Lookup.{Lookup}
use Rattle.closure_parts.specs.declared.held.Lookup.TheVariants.{Present, Absent}
use Rattle.closure_parts.specs.declared.records.Insertion.{Insertion}
use Rattle.closure_parts.specs.declared.records.Insertion.TheVariants.{Added, There}
use Rattle.closure_parts.specs.declared.records.Insertion.TheVariants.{Full as NoPlace}
use Rattle.receipt_core.specs.Limits.{receipt_limit, record_limit}

-- the domains of a configuration, as its sorted list
abbrev pub domains_of : Configuration → List (List ℕ)
domains_of c = with_items domain_cmp
    (map (λ r. r.domain) c.relationships
    ++ (map (λ r. r.endpoint.domain) c.relationships ++ map (λ s. s.domain) c.seeds)) []

-- the configuration, the receipts in order of arrival and in that of their lines, the records, and
-- how many receipts there is room for in all
pub record HeldReceipts : Type 0 where
  pub config : Configuration
  pub arrived : List Receipt
  pub held : List Receipt
  pub records : List Distrust
  pub capacity : ℕ

abbrev pub meaning_of : HeldReceipts → Meaning
meaning_of h = record { config = h.config; held = h.held; records = h.records }

-- receipts are ordered by the first byte of their ids, and then by their lines
abbrev pub bucket_of : Receipt → ℕ
bucket_of r = slice_index_or (receipt_id_of r) 0 0

abbrev pub bucket_cmp : Receipt → Receipt → Ordering
bucket_cmp r s = ordering_then (nat_cmp (bucket_of r) (bucket_of s)) (receipt_cmp r s)

-- The numbers of all receipts, in the order of buckets.
pub record AreBucketed (receipts : List Receipt) (buckets : Sequence) : Type 0 where
  pub arranged : Arranges buckets.items (length receipts)
  pub rising : IsStrictlySortedBy bucket_cmp (picked receipts buckets.items)

-- for how many receipts there is room, also in the order of buckets if that is kept
abbrev pub capacity_with : ℕ → Option Sequence → ℕ
capacity_with receipts None = receipts
capacity_with receipts (Some buckets) = min receipts buckets.capacity

-- The receipts fit and are in order, also in that of buckets if it is kept, and so are the records;
-- there are no more of either than the configuration lets there be.
pub record IsWellHeld (c : Configuration) (stock : ArenaView Receipt) (buckets : Option Sequence)
    (kept : KeptRecords) : Type 0 where
  pub configuration : IsConfiguration c
  pub receipts : AllByRecursion IsReceipt stock.items
  pub fitting : AllByRecursion (IsFitting c) stock.items
  pub rising : IsStrictlySortedBy receipt_cmp (in_order stock)
  pub few : length stock.items ≤ receipt_limit c
  pub arranged : Arranges stock.order (length stock.items)
  pub bucketed : IfSome buckets (AreBucketed stock.items)
  pub within : AreWithin (length (domains_of c)) kept.records
  pub keys : AllByRecursion (λ r. IsDigest r.key.0) kept.records
  pub records_rising : IsStrictlySortedBy record_cmp kept.records
  pub few_records : length kept.records ≤ kept.limit
  pub limit : kept.limit ≡ record_limit c

-- The receipt fits and is not held, and there may be one more; its place in the order is known.
pub record IsAbsent (m : Meaning) (r : Receipt) (place : ℕ) : Type 0 where
  pub is : IsReceipt r
  pub fits : IsFitting m.config r
  pub unheld : Contains m.held r → ⊥
  pub few : length m.held < receipt_limit m.config
  pub missing : IsMissing (λ s. receipt_cmp s r) m.held place

abbrev pub IsPlaced : Meaning → Receipt → Lookup → Type 0
IsPlaced m r Present = Contains m.held r
IsPlaced m r (Absent place) = IsAbsent m r place

abbrev pub RefusesNew : Meaning → Receipt → TakeError → Type 0
RefusesNew m r UnknownDomain = IsOfUnknownDomain m.config r
RefusesNew m r WrongEndpoint = IsOfWrongEndpoint m.config r
RefusesNew m r BelowFloor = IsBelowFloor m.config r
RefusesNew m r Full = IsOneTooMany m r
RefusesNew m r _ = ⊥

-- The record is held now, and was not.
pub record HasAdded (old : Meaning) (x : Distrust) (new : Meaning) : Type 0 where
  pub domain : HasDomain old.config x.domain
  pub unheld : Contains old.records x → ⊥
  pub few : length old.records < record_limit old.config
  pub meaning : new ≡ record old { records = with_distrust x old.records }

abbrev pub AddsRecord : Meaning → Distrust → Meaning → Insertion → Type 0
AddsRecord old x new Added = HasAdded old x new
AddsRecord old x new There = Contains old.records x × (new ≡ old)
AddsRecord old x new NoPlace = ⊥

abbrev pub AddsOrRefuses : Meaning → Distrust → Meaning → Result Insertion TakeError → Type 0
AddsOrRefuses old x new result = MatchResult result (AddsRecord old x new)
    (λ why. RefusesDistrust old x why × (new ≡ old))

-- what is returned for an addition
abbrev pub addition_result : Insertion → Result Insertion TakeError
addition_result Added = Ok Added
addition_result There = Ok There
addition_result NoPlace = Err Full

-- A triple is shut if its key is distrusted in its domain.
abbrev pub IsShutBy : List Distrust → Triple → Type 0
IsShutBy records t = Contains records (record { domain = t.domain; key = t.key })

-- The number is that of a domain of the configuration, and the key is distrusted there.
pub record IsDistrustedIn (h : HeldReceipts) (number : ℕ) (key : KeyId) : Type 0 where
  pub within : number < length (domains_of h.config)
  pub shut : Contains h.records
      (record { domain = slice_index_or (domains_of h.config) number []; key = key })

-- The new hoard has these records more.
pub record IsBefore (old : HeldReceipts) (more : List Distrust) (new : HeldReceipts) : Type 0 where
  pub config : new.config ≡ old.config
  pub arrived : new.arrived ≡ old.arrived
  pub held : new.held ≡ old.held
  pub records : new.records ≡ with_items distrust_cmp more old.records
