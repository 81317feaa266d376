-- The domains of a configuration, and what is held under it
use Rattle.std.proofs.Common.{◌≡◌, ℕ, zero, suc, ◌<◌, ◌≤◌, inl, inr, List, [], ◌∷◌, ◌++◌, map, length, get_or, Some, refl, sym, ap, ◌∙◌, subst, arith}
use Rattle.std.proofs.lemmas.Cmp.{nat_list_cmp_total}
use Rattle.std.specs.List.{AllByRecursion, Contains, slice_get}
use Rattle.std.specs.List.Sorted.{IsStrictlySortedBy}
use Rattle.std.proofs.lemmas.List.{length-map}
use Rattle.std.proofs.lemmas.List.Elements.{Contains-append_left, Contains-append_right, Contains-append_cases, Contains-get_or}
use Rattle.std.proofs.lemmas.Map.Lookups.{exact_bytes}
use Rattle.spiffe_name.specs.TrustDomain.{IsDomainText}
use Rattle.fed_config.specs.Configuration.{Configuration, IsConfiguration, IsRelationship, IsSeed, HasDomain, AreDomains, IsPlace, domain_cmp}
use Rattle.fed_config.specs.declared.relationship.Relationship.{Relationship}
use Rattle.fed_config.specs.declared.seed.Seed.{Seed}
use Rattle.receipt_core.specs.declared.distrust.Distrust.{Distrust}
use Rattle.receipt_core.specs.Receipt.{Receipt, IsReceipt, IsDistrust, IsDigest}
use Rattle.receipt_core.specs.Acceptance.{IsFitting, IsMeaning}
use Rattle.sorted_order.specs.ArenaView.{ArenaView, Arranges, in_order, picked}
use Rattle.sorted_order.specs.Sequence.{Sequence}
use Rattle.receipt_core.specs.Receipt.{receipt_cmp, with_distrust}
use Rattle.receipt_core.specs.Rising.{with_item}
use Rattle.receipt_core.specs.Acceptance.{Meaning}
use Rattle.receipt_core.proofs.RisingFacts.{with_item-all}
use Rattle.std.specs.Bool.{IsTrue}
use Rattle.std.specs.Prelude.{◌↔◌, Bool, Option, None, IfSome}
use Rattle.closure_core.specs.Inside.Records.{distrust_by, distrusts_of, AreWithin}
use Rattle.closure_parts.specs.Records.{KeptRecords, record_cmp, InsertsRecord}
use Rattle.closure_parts.specs.declared.records.Insertion.{Insertion}
use Rattle.closure_parts.specs.declared.records.Insertion.TheVariants.{Added, There, Full as NoPlace}
use Rattle.closure_core.specs.declared.record.Record.{Record}
use Rattle.closure_parts.specs.Held.{domains_of, bucket_cmp, AreBucketed, IsWellHeld, AddsOrRefuses, addition_result}
use Rattle.closure_core.proofs.ContainsFacts.{contains_none, IsMapped, mapped, contains_map}
use Rattle.closure_core.proofs.RisingFacts.{rising_same, with_items_has, with_items_gets, with_items_rising, with_item_rising, with_item_longer, each_has}
use Rattle.closure_parts.proofs.RecordFacts.{distrusts_rising, distrusts_with, record_of, record_total}
use Rattle.closure_parts.proofs.HeldFacts.{picked_all, length_in_order}
use Rattle.receipt_core.specs.Limits.{record_limit}

-- the domains that a configuration names, in the order of its parts
abbrev names_of : Configuration → List (List ℕ)
names_of c = map (λ r. r.domain) c.relationships ++ (map (λ r. r.endpoint.domain) c.relationships ++ map (λ s. s.domain) c.seeds)

-- The empty list of domains rises.
none_rising : IsStrictlySortedBy domain_cmp []
unfolding IsStrictlySortedBy
none_rising = tt

-- A relationship's domain is one of the configuration.
own_name : (c : Configuration) (d : List ℕ) → Contains (map (λ (r : Relationship). r.domain) c.relationships) d → HasDomain c d
own_name c d has =
    let found : IsMapped (λ (r : Relationship). r.domain) c.relationships d = mapped (λ (r : Relationship). r.domain) c.relationships d has in
    inl (found.item, found.has, found.is)

-- An endpoint's domain is one of the configuration.
endpoint_name : (c : Configuration) (d : List ℕ) → Contains (map (λ (r : Relationship). r.endpoint.domain) c.relationships) d → HasDomain c d
endpoint_name c d has =
    let found : IsMapped (λ (r : Relationship). r.endpoint.domain) c.relationships d = mapped (λ (r : Relationship). r.endpoint.domain) c.relationships d has in
    inr (inl (found.item, found.has, found.is))

-- A configured document's domain is one of the configuration.
seed_name : (c : Configuration) (d : List ℕ) → Contains (map (λ (s : Seed). s.domain) c.seeds) d → HasDomain c d
seed_name c d has =
    let found : IsMapped (λ (s : Seed). s.domain) c.seeds d = mapped (λ (s : Seed). s.domain) c.seeds d has in
    inr (inr (found.item, found.has, found.is))

-- Each name is a domain of the configuration.
has_name : (c : Configuration) (d : List ℕ) → Contains (names_of c) d → HasDomain c d
has_name c d has = elim (Contains-append_cases (map (λ (r : Relationship). r.domain) c.relationships) _ d has) [
  | inl here ↦ own_name c d here
  | inr there ↦ elim (Contains-append_cases (map (λ (r : Relationship). r.endpoint.domain) c.relationships) _ d there) [
    | inl here ↦ endpoint_name c d here
    | inr there ↦ seed_name c d there
  ]
]

-- Each domain of the configuration is among the names.
name_has : (c : Configuration) (d : List ℕ) → HasDomain c d → Contains (names_of c) d
name_has c d has = elim has [
  | inl own ↦
      Contains-append_left (map (λ (r : Relationship). r.domain) c.relationships)
      (map (λ (r : Relationship). r.endpoint.domain) c.relationships ++ map (λ (s : Seed). s.domain) c.seeds) d
      (subst (Contains (map (λ (r : Relationship). r.domain) c.relationships)) own.2
      (contains_map (λ (r : Relationship). r.domain) c.relationships own.0 own.1))
  | inr more ↦
      Contains-append_right (map (λ (r : Relationship). r.domain) c.relationships)
      (map (λ (r : Relationship). r.endpoint.domain) c.relationships ++ map (λ (s : Seed). s.domain) c.seeds) d
      (elim more [
        | inl endpoint ↦
            Contains-append_left (map (λ (r : Relationship). r.endpoint.domain) c.relationships) (map (λ (s : Seed). s.domain) c.seeds) d
            (subst (Contains (map (λ (r : Relationship). r.endpoint.domain) c.relationships)) endpoint.2
            (contains_map (λ (r : Relationship). r.endpoint.domain) c.relationships endpoint.0 endpoint.1))
        | inr seed ↦
            Contains-append_right (map (λ (r : Relationship). r.endpoint.domain) c.relationships) (map (λ (s : Seed). s.domain) c.seeds) d
            (subst (Contains (map (λ (s : Seed). s.domain) c.seeds)) seed.2 (contains_map (λ (s : Seed). s.domain) c.seeds seed.0 seed.1))
      ])
]

-- Each domain of the sorted list is among the names.
in_names : (c : Configuration) (d : List ℕ) → Contains (domains_of c) d → Contains (names_of c) d
in_names c d has = elim (with_items_has nat_list_cmp_total (names_of c) [] d has) [
  | inl here ↦ here
  | inr none ↦ absurd (contains_none d none)
]

-- The sorted list has exactly the domains of the configuration.
pub are_domains : (c : Configuration) → AreDomains c (domains_of c)
are_domains c = record {
  rising = with_items_rising nat_list_cmp_total (names_of c) [] none_rising;
  sound = λ d has. has_name c d (in_names c d has);
  complete = λ d has.
      with_items_gets nat_list_cmp_total (λ (x : List ℕ). Unit {0}) (λ x y p q e. exact_bytes x y e) (names_of c) []
      (λ x h. tt) (λ x h. tt) d (name_has c d has);
}

-- There is one such list, whatever list was computed.
pub one_domains : (c : Configuration) (ds : List (List ℕ)) → AreDomains c ds → ds ≡ domains_of c
one_domains c ds are =
    rising_same nat_list_cmp_total ds (domains_of c) are.rising (are_domains c).rising
    (λ d h. (are_domains c).complete d (are.sound d h)) (λ d h. are.complete d ((are_domains c).sound d h))

-- ---- the place of a domain

-- A place that has an item is within the list.
below_some : {X : Type 0} (xs : List X) (n : ℕ) (x : X) → slice_get xs n ≡ Some x → n < length xs
below_some [] n x e = absurd (cc)
below_some (y ∷ ys) zero x e = omega arith
below_some (y ∷ ys) (suc n) x e = let rest = below_some ys n x e in omega arith

-- To read with a default gives the item that is there.
get_some : {X : Type 0} (xs : List X) (n : ℕ) (x d : X) → slice_get xs n ≡ Some x → get_or xs n d ≡ x
get_some [] n x d e = absurd (cc)
get_some (y ∷ ys) zero x d e = cc
get_some (y ∷ ys) (suc n) x d e = get_some ys n x d e

-- A domain's place is within the list of domains.
pub place_below : (c : Configuration) (domain : List ℕ) (n : ℕ) → IsPlace c domain (Some n) → n < length (domains_of c)
place_below c domain n at = below_some (domains_of c) n domain (at (domains_of c) (are_domains c))

-- The domain is at its place.
pub place_is : (c : Configuration) (domain : List ℕ) (n : ℕ) → IsPlace c domain (Some n) → get_or (domains_of c) n [] ≡ domain
place_is c domain n at = get_some (domains_of c) n domain [] (at (domains_of c) (are_domains c))

-- A domain's place is below 1,024, so it fits a record.
pub place_few : (c : Configuration) (domain : List ℕ) (n : ℕ) → IsConfiguration c → IsPlace c domain (Some n) → n < 1024
place_few c domain n is at =
    let below : n < length (domains_of c) = place_below c domain n at in
    let few : length (domains_of c) ≤ 1024 = is.few_domains (domains_of c) (are_domains c) in
    omega arith

-- What has a place is a domain of the configuration.
pub place_has : (c : Configuration) (domain : List ℕ) (n : ℕ) → IsPlace c domain (Some n) → HasDomain c domain
place_has c domain n at =
    (are_domains c).sound domain (subst (Contains (domains_of c)) (place_is c domain n at) (Contains-get_or (domains_of c) n [] (place_below c domain n at)))

-- ---- what is held is a meaning

-- A domain of the configuration is the name of a trust domain.
domain_text : (c : Configuration) → IsConfiguration c → (d : List ℕ) → HasDomain c d → IsDomainText d
domain_text c is d has = elim has [
  | inl own ↦ subst IsDomainText own.2 (each_has IsRelationship c.relationships own.0 is.each_relationship own.1).domain
  | inr more ↦ elim more [
    | inl endpoint ↦ subst IsDomainText endpoint.2 (each_has IsRelationship c.relationships endpoint.0 is.each_relationship endpoint.1).endpoint.is_domain
    | inr seed ↦ subst IsDomainText seed.2 (each_has IsSeed c.seeds seed.0 is.each_seed seed.1).domain
  ]
]

-- The number of a record is that of a domain of the configuration.
own_domain : (c : Configuration) (r : Record) → r.domain < length (domains_of c) → HasDomain c (get_or (domains_of c) r.domain [])
own_domain c r below = (are_domains c).sound (get_or (domains_of c) r.domain []) (Contains-get_or (domains_of c) r.domain [] below)

-- All records of distrust are of domains of the configuration.
all_domains : (c : Configuration) (records : List Record) → AreWithin (length (domains_of c)) records
    → AllByRecursion (λ x. HasDomain c x.domain) (distrusts_of (domains_of c) records)
all_domains c [] within = tt
all_domains c (r ∷ rs) within = (own_domain c r within.0, all_domains c rs within.1)

-- All records of distrust are of their form.
all_distrusts : (c : Configuration) → IsConfiguration c → (records : List Record)
    → AreWithin (length (domains_of c)) records → AllByRecursion (λ r. IsDigest r.key.0) records
    → AllByRecursion IsDistrust (distrusts_of (domains_of c) records)
all_distrusts c is [] within keys = tt
all_distrusts c is (r ∷ rs) within keys =
    (record { domain = domain_text c is (get_or (domains_of c) r.domain []) (own_domain c r within.0); key = keys.0 }, all_distrusts c is rs within.1 keys.1)

-- What is held is a meaning: its receipts and records are in order, fit and are within limits.
pub hoard_meaning : (c : Configuration) (stock : ArenaView Receipt) (buckets : Option Sequence) (kept : KeptRecords)
    → IsWellHeld c stock buckets kept
    → IsMeaning (record { config = c; held = in_order stock; records = distrusts_of (domains_of c) kept.records })
hoard_meaning c stock buckets kept is =
    let records = kept.records in
    let limit = is.limit in
    let size : length (in_order stock) ≡ length stock.items = length_in_order stock is.arranged in
    let few = is.few in
    let few_records = is.few_records in
    record {
      receipts = picked_all IsReceipt stock.items is.receipts stock.order;
      rising = is.rising;
      fitting = picked_all (IsFitting c) stock.items is.fitting stock.order;
      few = omega arith;
      distrusts = all_distrusts c is.configuration records is.within is.keys;
      records_rising = distrusts_rising (domains_of c) records (are_domains c).rising is.within is.records_rising;
      domains = all_domains c records is.within;
      few_records = omega (arith, length-map records (distrust_by (domains_of c)));
    }

-- ---- nothing is held

-- The empty list of records rises.
no_record_rises : IsStrictlySortedBy record_cmp []
unfolding IsStrictlySortedBy
no_record_rises = tt

-- The empty list of receipts rises in the order of lines.
no_receipt_rises : IsStrictlySortedBy receipt_cmp []
unfolding IsStrictlySortedBy
no_receipt_rises = tt

-- The empty list of receipts rises in the order of buckets.
no_bucket_rises : IsStrictlySortedBy bucket_cmp []
unfolding IsStrictlySortedBy
no_bucket_rises = tt

-- The empty order arranges no items.
arranges_none : Arranges [] 0
arranges_none = record { counted = refl; within = λ k d h. absurd (omega arith); each = λ n h. absurd (omega arith) }

-- If the order of buckets is kept and empty, no receipts are in it.
none_bucketed : (buckets : Option Sequence) → IfSome buckets (λ order. order.items ≡ []) → IfSome buckets (AreBucketed [])
none_bucketed None empty = tt
none_bucketed (Some order) empty = record {
  arranged = subst (λ ns. Arranges ns 0) (sym empty) arranges_none;
  rising = subst (λ ns. IsStrictlySortedBy bucket_cmp (picked [] ns)) (sym empty) no_bucket_rises;
}

-- A closure without receipts and records holds what is to be held.
pub hoard_none : (c : Configuration) → IsConfiguration c → (buckets : Option Sequence) → IfSome buckets (λ order. order.items ≡ [])
    → IsWellHeld c (record { items = []; order = []; capacity = 0 }) buckets (record { records = []; limit = record_limit c })
hoard_none c is buckets empty = record {
  configuration = is;
  receipts = tt;
  fitting = tt;
  rising = no_receipt_rises;
  few = omega arith;
  arranged = arranges_none;
  bucketed = none_bucketed buckets empty;
  within = tt;
  keys = tt;
  records_rising = no_record_rises;
  few_records = omega arith;
  limit = refl;
}

-- ---- one record more

-- What is held with a list of records is held with an equal one.
hoard_with : (c : Configuration) (stock : ArenaView Receipt) (buckets : Option Sequence) (old new : KeptRecords)
    → IsWellHeld c stock buckets old → new ≡ old → IsWellHeld c stock buckets new
hoard_with c stock buckets old new hoard e = subst (IsWellHeld c stock buckets) (sym e) hoard

-- What is held is still well held after a record was added, was there, or had no place.
pub hoard_add : (c : Configuration) (stock : ArenaView Receipt) (buckets : Option Sequence) (old new : KeptRecords) (x : Record)
    → IsWellHeld c stock buckets old → x.domain < length (domains_of c) → IsDigest x.key.0 → (a : Insertion)
    → InsertsRecord old x new a → IsWellHeld c stock buckets new
hoard_add c stock buckets old new x hoard below key There h = hoard_with c stock buckets old new hoard h.1
hoard_add c stock buckets old new x hoard below key NoPlace h = hoard_with c stock buckets old new hoard h.now
hoard_add c stock buckets old new x hoard below key Added h =
    let longer = with_item_longer record_total x old.records in
    let few = h.few in
    let now : new.records ≡ with_item record_cmp x old.records = ap (λ (k : KeptRecords). k.records) h.now in
    let same : new.limit ≡ old.limit = ap (λ (k : KeptRecords). k.limit) h.now in
    let size : length new.records ≡ length (with_item record_cmp x old.records) = ap length now in
    record {
      configuration = hoard.configuration;
      receipts = hoard.receipts;
      fitting = hoard.fitting;
      rising = hoard.rising;
      few = hoard.few;
      arranged = hoard.arranged;
      bucketed = hoard.bucketed;
      within = subst (AreWithin (length (domains_of c))) (sym now)
          (with_item-all (λ (r : Record). r.domain < length (domains_of c)) record_cmp x old.records below hoard.within);
      keys = subst (AllByRecursion (λ (r : Record). IsDigest r.key.0)) (sym now)
          (with_item-all (λ (r : Record). IsDigest r.key.0) record_cmp x old.records key hoard.keys);
      records_rising = subst (IsStrictlySortedBy record_cmp) (sym now) (with_item_rising record_total x old.records hoard.records_rising);
      few_records = omega arith;
      limit = same ∙ hoard.limit;
    }

-- the meaning that has these receipts and records
abbrev pub meaning_with : Configuration → List Receipt → List Record → Meaning
meaning_with c held records = record { config = c; held = held; records = distrusts_of (domains_of c) records }

-- A record that is not held by its domain's number is not held by its domain's name.
lacks : (c : Configuration) (old : List Record) (x : Record) → x.domain < length (domains_of c)
    → AreWithin (length (domains_of c)) old → (Contains old x → ⊥)
    → Contains (distrusts_of (domains_of c) old) (distrust_by (domains_of c) x) → ⊥
lacks c old x below within unheld has = unheld (record_of (domains_of c) x old (are_domains c).rising below within has)

-- What was done to the records by numbers is what is to be done to the records of distrust.
pub added_or_refused : (c : Configuration) (held : List Receipt) (old new : KeptRecords) (x : Record)
    → x.domain < length (domains_of c) → AreWithin (length (domains_of c)) old.records → old.limit ≡ record_limit c → (a : Insertion)
    → InsertsRecord old x new a
    → AddsOrRefuses (meaning_with c held old.records) (distrust_by (domains_of c) x) (meaning_with c held new.records)
    (addition_result a)
added_or_refused c held old new x below within limit There h =
    (contains_map (distrust_by (domains_of c)) old.records x h.0, ap (λ (k : KeptRecords). meaning_with c held k.records) h.1)
added_or_refused c held old new x below within limit NoPlace h =
    let full = h.full in (
      record {
        domain = own_domain c x below;
        unheld = lacks c old.records x below within h.unheld;
        full = omega (arith, length-map old.records (distrust_by (domains_of c)));
      },
      ap (λ (k : KeptRecords). meaning_with c held k.records) h.now,
    )
added_or_refused c held old new x below within limit Added h =
    let few = h.few in
    let records : distrusts_of (domains_of c) new.records ≡ with_distrust (distrust_by (domains_of c) x) (distrusts_of (domains_of c) old.records) =
    ap (λ (k : KeptRecords). distrusts_of (domains_of c) k.records) h.now ∙ distrusts_with (domains_of c) x old.records (are_domains c).rising below within in
    record {
      domain = own_domain c x below;
      unheld = lacks c old.records x below within h.unheld;
      few = omega (arith, length-map old.records (distrust_by (domains_of c)));
      meaning = λ i. record { config = c; held = held; records = records i };
    }

-- ---- whether a record is held

-- A record is held by its number exactly if its record of distrust is held.
pub distrust_held : (c : Configuration) (records : List Record) (x : Record) (b : Bool)
    → x.domain < length (domains_of c) → AreWithin (length (domains_of c)) records → (IsTrue b ↔ Contains records x)
    → IsTrue b ↔ Contains (distrusts_of (domains_of c) records) (distrust_by (domains_of c) x)
distrust_held c records x b below within holds = (
  λ t. contains_map (distrust_by (domains_of c)) records x (holds.0 t),
  λ has. holds.1 (record_of (domains_of c) x records (are_domains c).rising below within has),
)

-- No record of distrust is held of a domain that the configuration lacks.
pub distrust_lacks : (c : Configuration) (records : List Record) (d : Distrust)
    → AreWithin (length (domains_of c)) records → (HasDomain c d.domain → ⊥)
    → Contains (distrusts_of (domains_of c) records) d → ⊥
distrust_lacks c records d within unknown has =
    unknown (each_has (λ (x : Distrust). HasDomain c x.domain) (distrusts_of (domains_of c) records) d
    (all_domains c records within) has)
