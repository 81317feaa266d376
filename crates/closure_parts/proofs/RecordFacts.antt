-- Records in their order
use Rattle.std.proofs.Common.{◌≡◌, ℕ, ◌+◌, ◌<◌, ◌≤◌, ⊎_elim, List, [], ◌∷◌, map, length, get_or, Less, Equal, Greater, refl, sym, ap, ◌∙◌, subst, arith}
use Rattle.std.specs.Cmp.{IsTotalOrder, then_total, nat_cmp_total, on_total}
use Rattle.std.specs.Cmp.Lexicographic.{on_texts}
use Rattle.std.specs.Ordering.{nat_cmp, ordering_then, ordering_index}
use Rattle.std.specs.declared.cmp.Ordering.{Ordering}
use Rattle.std.specs.List.{AllByRecursion, AllWithin, Contains, HoldsAt, insert}
use Rattle.std.specs.List.Sorted.{IsStrictlySortedBy, IsNonDecreasingBy, IsPartitionPoint, IsBinarySearchResult, IsSearchInRange}
use Rattle.std.specs.Bool.{IsTrue}
use Rattle.std.specs.Prelude.{◌↔◌, Result, Ok, Err}
use Rattle.std.specs.Result.{is_ok}
use Rattle.std.proofs.lemmas.Bool.{cases_lt}
use Rattle.std.proofs.lemmas.Cmp.{tied_itself}
use Rattle.std.proofs.lemmas.Map.Keys.{Less-from_sorted}
use Rattle.std.proofs.lemmas.Map.Lookups.{exact_bytes}
use Rattle.fed_config.specs.Configuration.{domain_cmp}
use Rattle.receipt_core.specs.declared.distrust.Distrust.{Distrust}
use Rattle.receipt_core.specs.Order.{distrust_total}
use Rattle.receipt_core.specs.Rising.{placed, with_item}
use Rattle.receipt_core.proofs.OrderFacts.{both_equal, equal_bytes, cmp_less, cmp_greater, cmp_equal}
use Rattle.receipt_core.specs.Receipt.{key_cmp, distrust_cmp}
use Rattle.closure_parts.specs.Records.{record_cmp, AreRecords}
use Rattle.closure_core.specs.Inside.Records.{distrust_by, distrusts_of, AreWithin}
use Rattle.closure_core.specs.declared.record.Record.{Record}
use Rattle.closure_core.proofs.ContainsFacts.{IsMapped, mapped}
use Rattle.closure_core.proofs.RisingFacts.{sought, with_item_at, with_item_rising, each_has, turned_less}
use Rattle.std.proofs.lemmas.List.Edits.{length-insert}

-- The order of records is total.
pub record_total : IsTotalOrder record_cmp
record_total = then_total (on_texts (λ (r : Record). r.key.0)) (on_total (λ (r : Record). r.domain) nat_cmp_total)

-- the order distinguishes records
pub one_record : (a b : Record) → record_cmp a b ≡ Equal → a ≡ b
one_record a b h =
    let parts = both_equal (key_cmp a.key b.key) _ h in
    let keys : a.key.0 ≡ b.key.0 = exact_bytes a.key.0 b.key.0 parts.0 in
    let domains : a.domain ≡ b.domain = equal_bytes a.domain b.domain parts.1 in
    λ i. record { key = record { 0 = keys i }; domain = domains i }

-- ---- the end of a search

module _ {X : Type 0} {R : X → X → Ordering} (o : IsTotalOrder R) where
  -- what lies between those before it and those after it is not there
  pub split_lacks : (xs : List X) (x : X) (place : ℕ) → AllWithin (λ y. R y x ≡ Less) xs 0 place
      → AllWithin (λ y. R y x ≡ Greater) xs place (length xs) → Contains xs x → ⊥
  split_lacks xs x place before after has =
      let itself : R x x ≡ Equal = tied_itself o x in
      ⊎_elim
      (λ (below : has.0 < place).
      let less : R x x ≡ Less = subst (λ y. R y x ≡ Less) has.2 (before has.0 x (omega arith) below) in cc)
      (λ (above : place ≤ has.0).
      let greater : R x x ≡ Greater = subst (λ y. R y x ≡ Greater) has.2 (after has.0 x above has.1) in cc)
      (cases_lt has.0 place)

  -- What a binary search that finds nothing says of a sorted list.
  pub searched : (xs : List X) (x : X) (place : ℕ) → IsStrictlySortedBy R xs
      → (IsNonDecreasingBy (λ y. ordering_index (R y x)) xs
      → IsPartitionPoint (λ y. R y x ≡ Less) (λ y. R y x ≡ Greater) xs place)
      → IsPartitionPoint (λ y. R y x ≡ Less) (λ y. R y x ≡ Greater) xs place
  searched xs x place rising splits = splits (sought o xs x rising)

-- A record that ties with what is sought is it, so it is held.
pub held_at : (xs : List Record) (x : Record) (k : ℕ) → k < length xs → HoldsAt (λ y. record_cmp y x ≡ Equal) xs k → Contains xs x
held_at xs x k below at = (k, below, one_record (get_or xs k x) x (at x))

-- ---- numbers of domains are in the domains' order

-- What comes before a domain has that after it.
turned_greater : (d e : List ℕ) → domain_cmp e d ≡ Less → domain_cmp d e ≡ Greater
turned_greater d e h = turned_less (on_texts (λ (x : List ℕ). x)) e d h

-- Domains compare as their numbers do.
pub cmp_numbers : (domains : List (List ℕ)) (i j : ℕ) → IsStrictlySortedBy domain_cmp domains → i < length domains
    → j < length domains → domain_cmp (get_or domains i []) (get_or domains j []) ≡ nat_cmp i j
cmp_numbers domains i j rising p q =
    ⊎_elim
    (λ (below : i < j). Less-from_sorted domain_cmp domains i j [] rising below q ∙ sym (cmp_less i j below))
    (λ (above : j ≤ i). ⊎_elim
    (λ (more : j < i).
    turned_greater (get_or domains i []) (get_or domains j []) (Less-from_sorted domain_cmp domains j i [] rising more p) ∙ sym (cmp_greater i j more))
    (λ (same : i ≤ j).
    let e : i ≡ j = omega arith in
    subst (λ k. domain_cmp (get_or domains i []) (get_or domains k []) ≡ nat_cmp i k) e
    (tied_itself (on_texts (λ (d : List ℕ). d)) (get_or domains i []) ∙ sym (cmp_equal i i refl)))
    (cases_lt j i))
    (cases_lt i j)

-- Records of distrust compare as the records by number do.
pub cmp_records : (domains : List (List ℕ)) (a b : Record) → IsStrictlySortedBy domain_cmp domains
    → a.domain < length domains → b.domain < length domains
    → distrust_cmp (distrust_by domains a) (distrust_by domains b) ≡ record_cmp a b
cmp_records domains a b rising p q = ap (λ o. ordering_then (key_cmp a.key b.key) o) (cmp_numbers domains a.domain b.domain rising p q)

-- One step of `distrusts_with`, for each way the record compares with the first.
placed_map : (domains : List (List ℕ)) (r s : Ordering) (x h : Record) (t longer : List Record) → r ≡ s
    → map (distrust_by domains) (placed s x h t longer)
    ≡ placed r (distrust_by domains x) (distrust_by domains h) (distrusts_of domains t) (distrusts_of domains longer)
placed_map domains r Less x h t longer e =
    ap (λ o. placed o (distrust_by domains x) (distrust_by domains h) (distrusts_of domains t)
    (distrusts_of domains longer)) (sym e)
placed_map domains r Equal x h t longer e =
    ap (λ o. placed o (distrust_by domains x) (distrust_by domains h) (distrusts_of domains t)
    (distrusts_of domains longer)) (sym e)
placed_map domains r Greater x h t longer e =
    ap (λ o. placed o (distrust_by domains x) (distrust_by domains h) (distrusts_of domains t)
    (distrusts_of domains longer)) (sym e)

-- To add a record by number is to add its record of distrust.
pub distrusts_with : (domains : List (List ℕ)) (x : Record) (records : List Record)
    → IsStrictlySortedBy domain_cmp domains → x.domain < length domains → AreWithin (length domains) records
    → distrusts_of domains (with_item record_cmp x records)
    ≡ with_item distrust_cmp (distrust_by domains x) (distrusts_of domains records)
distrusts_with domains x [] rising within all = refl
distrusts_with domains x (h ∷ t) rising within all =
    placed_map domains (distrust_cmp (distrust_by domains x) (distrust_by domains h)) (record_cmp x h) x h t
    (with_item record_cmp x t) (cmp_records domains x h rising within all.0)
    ∙ ap (λ longer. placed (distrust_cmp (distrust_by domains x) (distrust_by domains h)) (distrust_by domains x)
    (distrust_by domains h) (distrusts_of domains t) longer) (distrusts_with domains x t rising within all.1)

-- What comes before all records by number comes before all records of distrust.
below_map : (domains : List (List ℕ)) (x : Record) (records : List Record) → IsStrictlySortedBy domain_cmp domains
    → x.domain < length domains → AreWithin (length domains) records
    → AllByRecursion (λ y. record_cmp x y ≡ Less) records
    → AllByRecursion (λ y. distrust_cmp (distrust_by domains x) y ≡ Less) (distrusts_of domains records)
below_map domains x [] rising within all below = tt
below_map domains x (h ∷ t) rising within all below =
    (cmp_records domains x h rising within all.0 ∙ below.0, below_map domains x t rising within all.1 below.1)

-- Records that rise by number make records of distrust that rise.
pub distrusts_rising : (domains : List (List ℕ)) (records : List Record) → IsStrictlySortedBy domain_cmp domains
    → AreWithin (length domains) records → IsStrictlySortedBy record_cmp records
    → IsStrictlySortedBy distrust_cmp (distrusts_of domains records)
unfolding IsStrictlySortedBy
distrusts_rising domains [] rising all sorted = tt
distrusts_rising domains (h ∷ t) rising all sorted = (below_map domains h t rising all.0 all.1 sorted.0, distrusts_rising domains t rising all.1 sorted.1)

-- ---- a record is held exactly if its distrust is

-- If the record of distrust is held, so is the record by number.
pub record_of : (domains : List (List ℕ)) (x : Record) (records : List Record) → IsStrictlySortedBy domain_cmp domains
    → x.domain < length domains → AreWithin (length domains) records
    → Contains (distrusts_of domains records) (distrust_by domains x) → Contains records x
record_of domains x records rising within all has =
    let found : IsMapped (distrust_by domains) records (distrust_by domains x) = mapped (distrust_by domains) records (distrust_by domains x) has in
    let inside : found.item.domain < length domains = each_has (λ (r : Record). r.domain < length domains) records found.item all found.has in
    let tied : distrust_cmp (distrust_by domains found.item) (distrust_by domains x) ≡ Equal =
    subst (λ (d : Distrust). distrust_cmp d (distrust_by domains x) ≡ Equal) (sym found.is) (tied_itself distrust_total (distrust_by domains x)) in
    let same : found.item ≡ x = one_record found.item x (sym (cmp_records domains found.item x rising inside within) ∙ tied) in
    subst (Contains records) same found.has

-- Without records all is kept as it should be.
pub no_records : (limit capacity : ℕ) → limit ≤ capacity → AreRecords (record { records = []; limit = limit }) capacity
unfolding IsStrictlySortedBy
no_records limit capacity room = record { rising = tt; few = omega arith; room = room }

-- ---- one record more

-- A record is added by putting it at the end of the search.
pub with_record : (xs new : List Record) (x : Record) (place : ℕ) → IsStrictlySortedBy record_cmp xs
    → IsPartitionPoint (λ y. record_cmp y x ≡ Less) (λ y. record_cmp y x ≡ Greater) xs place → place ≤ length xs
    → new ≡ insert xs place x → new ≡ with_item record_cmp x xs
with_record xs new x place rising split within e = e ∙ sym (with_item_at record_total x xs place within split.0 split.1)

-- The records are kept as they should be after one more.
pub more_records : (xs new : List Record) (x : Record) (limit place capacity room : ℕ)
    → AreRecords (record { records = xs; limit = limit }) capacity → length xs < limit → place ≤ length xs
    → new ≡ insert xs place x → new ≡ with_item record_cmp x xs → capacity ≤ room
    → AreRecords (record { records = new; limit = limit }) room
more_records xs new x limit place capacity room are few within inserted e wider =
    let size : length new ≡ length xs + 1 = ap length inserted ∙ length-insert xs place x within in
    let old = are.room in
    record {
      rising = subst (IsStrictlySortedBy record_cmp) (sym e) (with_item_rising record_total x xs are.rising);
      few = omega arith;
      room = omega arith;
    }

-- What a binary search returns says whether the record is held.
pub holds_found : (xs : List Record) (x : Record) (r : Result ℕ ℕ) → IsStrictlySortedBy record_cmp xs
    → IsSearchInRange r (length xs) → IsBinarySearchResult (λ y. record_cmp y x) xs r → IsTrue (is_ok r) ↔ Contains xs x
holds_found xs x (Ok k) rising range found = (λ t. held_at xs x k range found, λ h. refl)
holds_found xs x (Err place) rising range found =
    let split : IsPartitionPoint (λ y. record_cmp y x ≡ Less) (λ y. record_cmp y x ≡ Greater) xs place = searched record_total xs x place rising found in
    (λ t. absurd (cc), λ has. absurd (split_lacks record_total xs x place split.0 split.1 has))
