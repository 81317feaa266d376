-- Ids of receipts.
use Rattle.std.proofs.Common.{◌≡◌, ◌∙◌, ℕ, zero, suc, take, ◌-◌, Bool, true, false, ◌+◌, ◌<◌, ◌≤◌, ⊎_elim, List, [], ◌∷◌, map, length}
use Rattle.std.proofs.Common.{refl, sym, ap, Less, Equal, Greater, get_or, subst, arith}
use Rattle.std.specs.Prelude.{◌↔◌, Contains, Result, Ok, Err, IsTrue}
use Rattle.std.specs.Result.{is_ok}
use Rattle.std.specs.List.{AllByRecursion}
use Rattle.std.specs.List.Sorted.{IsStrictlySortedBy, IsPartitionPoint, IsBinarySearchResult, IsSearchInRange, IsSorted}
use Rattle.std.specs.Cmp.{IsTotalOrder}
use Rattle.std.specs.Cmp.Lexicographic.{on_texts}
use Rattle.std.proofs.lemmas.Map.Lookups.{exact_bytes}
use Rattle.std.specs.Ordering.{is_lt}
use Rattle.std.specs.List.{IsAllAdjacentAnswer}
use Rattle.std.proofs.lemmas.Map.Keys.{Less-from_sorted, sorted_from_all_adjacent}
use Rattle.std.proofs.lemmas.List.Sorted.{searchable_from_sorted}
use Rattle.std.proofs.lemmas.List.{get_or_default}
use Rattle.std.proofs.lemmas.Cmp.{tied_itself}
use Rattle.std.proofs.lemmas.Bool.{cases_lt}
use Rattle.receipt_core.proofs.RisingFacts.{turned, with_items-rising}
use Rattle.replica_core.proofs.ContainsFacts.{map-from, map-to}
use Rattle.replica_core.proofs.RisingListFacts.{rising_take}
use Rattle.std.specs.declared.cmp.Ordering.{Ordering}
use Rattle.std.specs.Ordering.{nat_cmp}
use Rattle.std.specs.Cmp.Lexicographic.{slice_cmp}
use Rattle.receipt_core.specs.declared.receipt_id.ReceiptId.{ReceiptId}
use Rattle.receipt_core.specs.Receipt.{receipt_id_of}
use Rattle.std.specs.List.{filter}
use Rattle.replica_core.specs.State.{State, id_cmp, ids_held, ids_named, is_of_bucket, most_named}

-- an id as its bytes
abbrev pub bytes_of : ReceiptId → List ℕ
bytes_of id = id.0

-- the order of ids, which is that of their bytes
abbrev pub named_cmp : ReceiptId → ReceiptId → Ordering
named_cmp a b = slice_cmp nat_cmp a.0 b.0

-- ---- the place of an id

-- The order of ids' bytes is total.
id_total : IsTotalOrder id_cmp
id_total = on_texts (λ (t : List ℕ). t)

-- The order of ids is total.
named_total : IsTotalOrder named_cmp
named_total = on_texts bytes_of

-- What comes before all ids by bytes does so as an id.
all-bytes : (x : ReceiptId) (ids : List ReceiptId) → AllByRecursion (λ y. id_cmp x.0 y ≡ Less) (map bytes_of ids)
    → AllByRecursion (λ y. named_cmp x y ≡ Less) ids
all-bytes x [] a = tt
all-bytes x (h ∷ t) a = (a.0, all-bytes x t a.1)

-- Ids whose bytes rise do rise.
named-rising : (ids : List ReceiptId) → IsStrictlySortedBy id_cmp (map bytes_of ids) → IsStrictlySortedBy named_cmp ids
unfolding IsStrictlySortedBy
named-rising [] r = tt
named-rising (h ∷ t) r = (all-bytes h t r.0, named-rising t r.1)

-- each is not below those before it
in-order : (ids : List ReceiptId) → IsStrictlySortedBy named_cmp ids → IsSorted named_cmp ids
in-order ids up k d low below =
    ap is_lt (turned named_total (get_or ids k d) (get_or ids (k + 1) d) (Less-from_sorted named_cmp ids k (k + 1) d up (omega arith) (omega arith)))

-- what lies between those below it and those above it is not there
apart : (ids : List ReceiptId) (x : ReceiptId) (place : ℕ) → IsPartitionPoint (λ y. named_cmp y x ≡ Less) (λ y. named_cmp y x ≡ Greater) ids place
    → (item : ReceiptId) → Contains ids item → item.0 ≡ x.0 → ⊥
apart ids x place split item has same =
    let tied : named_cmp item x ≡ Equal = ap (λ t. id_cmp t x.0) same ∙ tied_itself id_total x.0 in
    ⊎_elim
    (λ (below : has.0 < place).
    let less : named_cmp item x ≡ Less = subst (λ y. named_cmp y x ≡ Less) has.2 (split.0 has.0 item (omega arith) below) in
    let both : Less ≡ Equal = sym less ∙ tied in cc)
    (λ (above : place ≤ has.0).
    let greater : named_cmp item x ≡ Greater = subst (λ y. named_cmp y x ≡ Greater) has.2 (split.1 has.0 item above has.1) in
    let both : Greater ≡ Equal = sym greater ∙ tied in cc)
    (cases_lt has.0 place)

-- What a binary search returns says whether the id is there.
pub id_found : (ids : List ReceiptId) (x : ReceiptId) (r : Result ℕ ℕ) → IsStrictlySortedBy id_cmp (map bytes_of ids)
    → IsSearchInRange r (length ids) → IsBinarySearchResult (λ y. named_cmp y x) ids r
    → IsTrue (is_ok r) ↔ Contains (map bytes_of ids) x.0
id_found ids x (Ok k) rising range found = (
  λ t. subst (Contains (map bytes_of ids)) (exact_bytes (get_or ids k x).0 x.0 (found x))
      (map-to bytes_of ids (get_or ids k x) (k, range, get_or_default ids k (get_or ids k x) x range)),
  λ h. refl,
)
id_found ids x (Err place) rising range found =
    let up = named-rising ids rising in
    let split : IsPartitionPoint (λ y. named_cmp y x ≡ Less) (λ y. named_cmp y x ≡ Greater) ids place =
    found (searchable_from_sorted named_total (λ y. y) ids x (in-order ids up)) in
    (λ t. absurd (cc), λ has. let m = map-from bytes_of ids x.0 has in absurd (apart ids x place split m.0 m.1 m.2))

-- ids that are held rise
held-rising : (state : State) (bucket : ℕ) → IsStrictlySortedBy id_cmp (ids_held state bucket)
unfolding IsStrictlySortedBy
held-rising state bucket = with_items-rising id_cmp id_total (map receipt_id_of (filter (is_of_bucket bucket) state.held)) [] tt

-- ids that a have names rise
pub named-ids-rise : (state : State) (bucket : ℕ) → IsStrictlySortedBy id_cmp (ids_named state bucket)
named-ids-rise state bucket = rising_take id_cmp most_named (ids_held state bucket) (held-rising state bucket)

-- The bytes of the first ids are the first of all bytes.
bytes-take : (n : ℕ) (ids : List ReceiptId) → map bytes_of (take n ids) ≡ take n (map bytes_of ids)
bytes-take zero ids = refl
bytes-take (suc n) [] = refl
bytes-take (suc n) (id ∷ ids) = ap (λ (l : List (List ℕ)). id.0 ∷ l) (bytes-take n ids)

-- What is left after the cut are the first of what was held.
pub named_bytes : (ids cut : List ReceiptId) (all : List (List ℕ)) → cut ≡ take most_named ids → map bytes_of ids ≡ all
    → map bytes_of cut ≡ take most_named all
named_bytes ids cut all e same = ap (map bytes_of) e ∙ bytes-take most_named ids ∙ ap (take most_named) same

-- ---- whether ids rise

-- whether the earlier id comes before the later one
abbrev pub below : ReceiptId → ReceiptId → Bool
below earlier later = is_lt (named_cmp earlier later)

-- What the test finds less is less.
less : (o : Ordering) → is_lt o ≡ true → o ≡ Less
less Less e = refl
less Equal e = absurd (let f : false ≡ true = e in cc)
less Greater e = absurd (let f : false ≡ true = e in cc)

-- What comes before all ids does so by bytes.
bytes-all : (x : ReceiptId) (ids : List ReceiptId) → AllByRecursion (λ y. named_cmp x y ≡ Less) ids
    → AllByRecursion (λ y. id_cmp x.0 y ≡ Less) (map bytes_of ids)
bytes-all x [] a = tt
bytes-all x (h ∷ t) a = (a.0, bytes-all x t a.1)

-- The bytes of ids that rise do rise.
pub bytes-rising : (ids : List ReceiptId) → IsStrictlySortedBy named_cmp ids → IsStrictlySortedBy id_cmp (map bytes_of ids)
unfolding IsStrictlySortedBy
bytes-rising [] r = tt
bytes-rising (h ∷ t) r = (bytes-all h t r.0, bytes-rising t r.1)

-- The comparison of all neighbours says whether ids rise.
pub rising_stated : (ids : List ReceiptId) (stated : Bool) → IsAllAdjacentAnswer (λ x y b. b ≡ below x y) ids stated
    → IsTrue stated ↔ IsStrictlySortedBy id_cmp (map bytes_of ids)
unfolding IsStrictlySortedBy
rising_stated [] true all = (λ t. bytes-rising [] tt, λ r. refl)
rising_stated (first ∷ others) true all = (
  λ t. bytes-rising (first ∷ others)
      (sorted_from_all_adjacent named_total (first ∷ others) first (λ k within. less _ (sym (all k first within)))),
  λ r. refl,
)
rising_stated [] false (k, within, falls) = absurd (omega arith)
rising_stated (first ∷ others) false (k, within, falls) = (
  λ t. absurd (cc),
  λ r.
      let up = named-rising (first ∷ others) r in
      let rises = ap is_lt (Less-from_sorted named_cmp (first ∷ others) k (k + 1) first up (omega arith) within) in
      absurd (let f : false ≡ true = falls first ∙ rises in cc),
)

-- The ids before the place rise: each is below the next.
pub record RisesTo (ids : List ReceiptId) (place : ℕ) : Type 0 where
  pub some : 0 < place
  pub each : (k : ℕ) (d : ReceiptId) → k + 1 < place → true ≡ below (get_or ids k d) (get_or ids (k + 1) d)

-- If the place is the end, all ids rise.
pub rises-all : (ids : List ReceiptId) (place : ℕ) → RisesTo ids place → length ids ≤ place → IsStrictlySortedBy id_cmp (map bytes_of ids)
rises-all ids place r h = (rising_stated ids true (λ k d within. r.each k d (omega arith))).0 refl

-- Within the list a comparison reads the same with any default.
same-pair : (ids : List ReceiptId) (j k : ℕ) (d e : ReceiptId) → j < length ids → k < length ids
    → below (get_or ids j d) (get_or ids k d) ≡ below (get_or ids j e) (get_or ids k e)
same-pair ids j k d e hj hk =
    ap (λ x. below x (get_or ids k d)) (get_or_default ids j d e hj) ∙ ap (below (get_or ids j e)) (get_or_default ids k d e hk)

-- If one id is not below the next, the ids do not rise.
pub falls-at : (ids : List ReceiptId) (place : ℕ) (other : ReceiptId) → 0 < place → place < length ids
    → false ≡ below (get_or ids (place - 1) other) (get_or ids place other)
    → IsStrictlySortedBy id_cmp (map bytes_of ids) → ⊥
falls-at ids place other some h e rising =
    let at : place ≡ place - 1 + 1 = omega arith in
    let f : false ≡ true = (rising_stated ids false (
      place - 1,
      omega arith,
      λ d.
          subst (λ n. false ≡ below (get_or ids (place - 1) d) (get_or ids n d)) at (e ∙ same-pair ids (place - 1) place other d (omega arith) h),
    )).1 rising in cc
