-- Sums that are kept.
use Rattle.std.proofs.Common.{◌≡◌, ◌∙◌, ℕ, zero, suc, ◌+◌, ◌≤◌, inl, inr, List, [], ◌∷◌, ◌++◌, length, map}
use Rattle.std.proofs.Common.{refl, sym, ap, subst, arith}
use Rattle.std.specs.Prelude.{Some, None, Result, Ok, Err, IfOk, slice_get, flat_map, not, Contains}
use Rattle.std.specs.declared.cmp.Ordering.{Ordering}
use Rattle.std.specs.declared.cmp.Ordering.TheVariants.{Equal, Less}
use Rattle.std.specs.Cmp.{IsTotalOrder, tied_itself}
use Rattle.std.specs.List.{AllByRecursion}
use Rattle.std.specs.List.Sorted.{IsStrictlySortedBy}
use Rattle.std.proofs.lemmas.List.Filters.{length-filter_both}
use Rattle.std.proofs.lemmas.List.Kept.{IsStrictlySortedBy-filter}
use Rattle.sha2.specs.Sha256.{sha256}
use Rattle.receipt_core.specs.declared.distrust.Distrust.{Distrust}
use Rattle.receipt_core.specs.Receipt.{Receipt, distrust_cmp, receipt_cmp, receipt_id_of}
use Rattle.receipt_core.specs.Acceptance.{IsMeaning, Meaning}
use Rattle.receipt_core.specs.Order.{distrust_total, receipt_total}
use Rattle.receipt_core.specs.Rising.{with_items}
use Rattle.receipt_core.proofs.RisingFacts.{Contains-from_has, Has, Has-from_contains, each_has}
use Rattle.closure_core.specs.AcceptedList.{is_in_bucket, receipts_in}
use Rattle.replica_core.specs.Convergence.{IsPartOf}
use Rattle.replica_core.specs.Session.{state_of}
use Rattle.replica_core.specs.State.{State, id_cmp, no_state}
use Rattle.replica_core.proofs.ContainsFacts.{contains-none, filter-from, filter-to}
use Rattle.replica_core.proofs.RisingListFacts.{rising_head, rising_nil, rising_tail}
use Rattle.replica_texts.specs.Messages.{record_text}
use Rattle.bucket_sums.specs.Parts.{count_in, part_sum}
use Rattle.bucket_sums.specs.Sums.{bucket_sums_from, ids_text, sums_of}
use Rattle.bucket_sums.specs.Inside.KeptSteps.{AreKeptSums, ArePartSums, IsRisingBoth, IsSumOf, HasCountsOf, sums_in}
use Rattle.bucket_sums.specs.declared.kept_sums.CountedSum.{CountedSum}
use Rattle.bucket_sums.specs.declared.kept_sums.KeptSums.{KeptSums}
use Rattle.bucket_sums.proofs.SumFacts.{bytes_of}
use Rattle.receipt_core.specs.Limits.{most_receipts}
use Rattle.receipt_core.proofs.LimitFacts.{receipt_limit-most}

-- ---- sorted lists, one among another

-- Nothing is below itself.
no_less : {A : Type 0} {cmp : A → A → Ordering} → IsTotalOrder cmp → (a : A) → cmp a a ≡ Less → ⊥
no_less {A} {cmp} o a h = let tied : cmp a a ≡ Equal = tied_itself o a in cc

-- all items of one list are among those of the other
abbrev Among : {A : Type 0} → List A → List A → Type 0
Among {A} xs ys = (a : A) → Has xs a → Has ys a

-- If the first items are the same, the others are among the others.
tails_among : {A : Type 0} (cmp : A → A → Ordering) → IsTotalOrder cmp → (x y : A) (xs ys : List A) → y ≡ x
    → AllByRecursion (λ z. cmp x z ≡ Less) xs → Among (x ∷ xs) (y ∷ ys) → Among xs ys
tails_among {A} cmp t x y xs ys same above there a h =
    elim (there a (inr h)) [
      | inl e ↦ absurd (no_less t x (subst (λ (z : A). cmp x z ≡ Less) (sym e ∙ same) (each_has (λ z. cmp x z ≡ Less) xs a above h)))
      | inr later ↦ later
    ]

-- If the first item is among the others, all are.
all_later : {A : Type 0} (cmp : A → A → Ordering) → IsTotalOrder cmp → (x y : A) (xs ys : List A) → Has ys x
    → AllByRecursion (λ z. cmp x z ≡ Less) xs → AllByRecursion (λ z. cmp y z ≡ Less) ys → Among (x ∷ xs) (y ∷ ys) → Among (x ∷ xs) ys
all_later {A} cmp t x y xs ys first above above_y there a (inl e) = subst (Has ys) e first
all_later {A} cmp t x y xs ys first above above_y there a (inr h) =
    elim (there a (inr h)) [
      | inl e ↦ absurd (no_less t y (t.trans y x y (each_has (λ z. cmp y z ≡ Less) ys x above_y first)
          (subst (λ (z : A). cmp x z ≡ Less) (sym e) (each_has (λ z. cmp x z ≡ Less) xs a above h))))
      | inr later ↦ later
    ]

-- A sorted list among another is not longer.
no_longer : {A : Type 0} (cmp : A → A → Ordering) → IsTotalOrder cmp → (xs ys : List A) → IsStrictlySortedBy cmp xs → IsStrictlySortedBy cmp ys
    → Among xs ys → length xs ≤ length ys
no_longer cmp t [] ys p q there = omega arith
no_longer cmp t (x ∷ xs) [] p q there = absurd (there x (inl refl))
no_longer cmp t (x ∷ xs) (y ∷ ys) p q there =
    elim (there x (inl refl)) [
      | inl same ↦
          let rest = no_longer cmp t xs ys (rising_tail cmp x xs p) (rising_tail cmp y ys q)
          (tails_among cmp t x y xs ys same (rising_head cmp x xs p) there) in
          omega (arith, rest)
      | inr later ↦
          let rest = no_longer cmp t (x ∷ xs) ys p (rising_tail cmp y ys q)
          (all_later cmp t x y xs ys later (rising_head cmp x xs p) (rising_head cmp y ys q) there) in
          omega (arith, rest)
    ]

-- A sorted list among another that has its length is the other one.
same_size : {A : Type 0} (cmp : A → A → Ordering) → IsTotalOrder cmp → (xs ys : List A) → IsStrictlySortedBy cmp xs → IsStrictlySortedBy cmp ys
    → Among xs ys → length xs ≡ length ys → xs ≡ ys
same_size cmp t [] [] p q there size = refl
same_size cmp t [] (y ∷ ys) p q there size = absurd (omega (arith, size))
same_size cmp t (x ∷ xs) [] p q there size = absurd (there x (inl refl))
same_size cmp t (x ∷ xs) (y ∷ ys) p q there size =
    elim (there x (inl refl)) [
      | inl same ↦
          let rest = same_size cmp t xs ys (rising_tail cmp x xs p) (rising_tail cmp y ys q)
          (tails_among cmp t x y xs ys same (rising_head cmp x xs p) there) (omega (arith, size)) in
          λ i. sym same i ∷ rest i
      | inr later ↦
          let rest = no_longer cmp t (x ∷ xs) ys p (rising_tail cmp y ys q)
          (all_later cmp t x y xs ys later (rising_head cmp x xs p) (rising_head cmp y ys q) there) in
          absurd (omega (arith, rest, size))
    ]

-- the same, of what contains what
same_items : {A : Type 0} (cmp : A → A → Ordering) → IsTotalOrder cmp → (xs ys : List A) → IsStrictlySortedBy cmp xs → IsStrictlySortedBy cmp ys
    → ((a : A) → Contains xs a → Contains ys a) → length xs ≡ length ys → xs ≡ ys
same_items cmp t xs ys p q there size =
    same_size cmp t xs ys p q (λ a h. Has-from_contains ys a (there a (Contains-from_has xs a h))) size

-- ---- a part that has not changed

-- If the number of receipts or records in a part is what it was, its sum is what it was.
part_same : (before state : State) (part : ℕ) → IsRisingBoth before → IsRisingBoth state → IsPartOf before state
    → count_in before part ≡ count_in state part → part_sum before part ≡ part_sum state part
part_same before state zero old new grown size =
    ap (λ (xs : List Distrust). sha256 (flat_map record_text xs))
    (same_items distrust_cmp distrust_total before.records state.records old.records new.records grown.distrusts size)
part_same before state (suc bucket) old new grown size =
    ap (λ (rs : List Receipt). sha256 (ids_text (with_items id_cmp (map receipt_id_of rs) [])))
    (same_items receipt_cmp receipt_total (receipts_in bucket before.held) (receipts_in bucket state.held)
    (IsStrictlySortedBy-filter receipt_cmp (is_in_bucket bucket) before.held old.held)
    (IsStrictlySortedBy-filter receipt_cmp (is_in_bucket bucket) state.held new.held)
    (λ r h.
    let was = filter-from (is_in_bucket bucket) before.held r h in
    filter-to (is_in_bucket bucket) state.held r (grown.receipts r was.0) was.1)
    size)

-- If the numbers of receipts and of records are the same, all is the same.
state_same : (before state : State) → IsRisingBoth before → IsRisingBoth state → IsPartOf before state → length before.held ≡ length state.held
    → length before.records ≡ length state.records → before ≡ state
state_same before state old new grown receipts records =
    let held = same_items receipt_cmp receipt_total before.held state.held old.held new.held grown.receipts receipts in
    let distrusts = same_items distrust_cmp distrust_total before.records state.records old.records new.records grown.distrusts records in
    λ i. record { held = held i; records = distrusts i }

-- ---- all parts

-- The sum in a place is that of the part.
sum_at : (state : State) (first place : ℕ) (parts : List CountedSum) (k : CountedSum) → ArePartSums state first parts → slice_get parts place ≡ Some k
    → IsSumOf state (first + place) k
sum_at state first place [] k sums is = absurd (let no : None ≡ Some k = is in cc)
sum_at state first zero (one ∷ parts) k sums is =
    let same : one ≡ k = (let s : Some one ≡ Some k = is in cc) in
    let at : first ≡ first + zero = omega arith in
    subst (λ (n : ℕ). IsSumOf state n k) at (subst (IsSumOf state first) same sums.0)
sum_at state first (suc place) (one ∷ parts) k sums is =
    let at : (first + 1) + place ≡ first + suc place = omega arith in
    subst (λ (n : ℕ). IsSumOf state n k) at (sum_at state (first + 1) place parts k sums.1 is)

-- The sums of buckets are these.
buckets_are : (state : State) (first : ℕ) (parts : List CountedSum) → ArePartSums state (suc first) parts
    → sums_in parts ≡ bucket_sums_from state first (length parts)
unfolding bucket_sums_from
buckets_are state first [] sums = refl
buckets_are state first (k ∷ parts) sums =
    let at : suc first + 1 ≡ suc (first + 1) = omega arith in
    let rest = buckets_are state (first + 1) parts (subst (λ (n : ℕ). ArePartSums state n parts) at sums.1) in
    let one = sums.0.sum in
    λ i. one i ∷ rest i

-- The sums of all parts are these.
pub all_are : (state : State) (parts : List CountedSum) → ArePartSums state 0 parts → length parts ≡ 257 → sums_in parts ≡ sums_of state
all_are state [] sums all = absurd (omega (arith, all))
all_are state (k ∷ parts) sums all =
    let size : length parts ≡ 256 = omega (arith, all) in
    let rest : sums_in parts ≡ bucket_sums_from state 0 256 = buckets_are state 0 parts sums.1 ∙ ap (bucket_sums_from state 0) size in
    let one = sums.0.sum in
    λ i. one i ∷ rest i

-- One sum more is that of the part after them.
pub sums_more : (state : State) (first : ℕ) (parts : List CountedSum) (k : CountedSum) → ArePartSums state first parts
    → IsSumOf state (first + length parts) k → ArePartSums state first (parts ++ k ∷ [])
sums_more state first [] k sums one =
    let at : first + 0 ≡ first = omega arith in (subst (λ (n : ℕ). IsSumOf state n k) at one, tt)
sums_more state first (p ∷ parts) k sums one =
    let at : first + length (p ∷ parts) ≡ (first + 1) + length parts = omega arith in
    (sums.0, sums_more state (first + 1) parts k sums.1 (subst (λ (n : ℕ). IsSumOf state n k) at one))

-- ---- what is kept

-- There are no sums before the first time.
pub kept_none : (kept : KeptSums) → kept.parts.items ≡ [] → kept.receipts ≡ 0 → (state : State) → AreKeptSums kept state
kept_none kept none zero_kept state = record {
  before = no_state;
  rising = record { held = rising_nil receipt_cmp; records = rising_nil distrust_cmp };
  grown = record { receipts = λ r h. absurd (contains-none r h); distrusts = λ x h. absurd (contains-none x h) };
  sums = subst (ArePartSums no_state 0) (sym none) tt;
  receipts = zero_kept;
}

-- What a closure holds rises.
pub rises : (m : Meaning) → IsMeaning m → IsRisingBoth (state_of m)
rises m valid = record { held = valid.rising; records = valid.records_rising }

-- A sum that is kept is that of the part, if it is of the number of receipts or records that the part has.
pub kept_part_is : (kept : KeptSums) (m : Meaning) (part count : ℕ) (k : CountedSum) → IsMeaning m → slice_get kept.parts.items part ≡ Some k
    → k.count ≡ count → count ≡ count_in (state_of m) part → AreKeptSums kept (state_of m) → IsSumOf (state_of m) part k
kept_part_is kept m part count k valid is same count_is were =
    let at : 0 + part ≡ part = omega arith in
    let was : IsSumOf were.before part k =
    subst (λ (n : ℕ). IsSumOf were.before n k) at (sum_at were.before 0 part kept.parts.items k were.sums is) in
    record {
      count = same ∙ count_is;
      sum = was.sum ∙ part_same were.before (state_of m) part were.rising (rises m valid) were.grown (sym was.count ∙ same ∙ count_is);
    }

-- If nothing has changed, the sums are those of what is held.
pub unchanged_sums : (kept : KeptSums) (m : Meaning) → IsMeaning m → HasCountsOf kept (state_of m) → AreKeptSums kept (state_of m)
    → sums_in kept.parts.items ≡ sums_of (state_of m)
unchanged_sums kept m valid same were =
    let first = subst (ArePartSums were.before 0) same.parts were.sums in
    let records : length were.before.records ≡ length m.records = sym first.0.count ∙ same.records in
    let receipts : length were.before.held ≡ length m.held = sym were.receipts ∙ same.receipts in
    all_are were.before kept.parts.items were.sums same.all
    ∙ ap sums_of (state_same were.before (state_of m) were.rising (rises m valid) were.grown receipts records)

-- A bucket has few receipts.
pub few_in_bucket : (m : Meaning) (bucket : ℕ) → IsMeaning m → length (receipts_in bucket m.held) ≤ most_receipts
few_in_bucket m bucket valid =
    let parts = length-filter_both (is_in_bucket bucket) (λ r. not (is_in_bucket bucket r)) (λ r. refl) m.held in
    let few = valid.few in
    omega (arith, parts, few, receipt_limit-most m.config)

-- The bytes of sums that are taken out are those of the sums.
pub sums_taken_out : (parts : List CountedSum) → map bytes_of (map (λ (k : CountedSum). k.sum) parts) ≡ sums_in parts
sums_taken_out [] = refl
sums_taken_out (k ∷ parts) = ap (λ (l : List (List ℕ)). k.sum.0 ∷ l) (sums_taken_out parts)

-- What a copy of the sums is, if they are those of what is held.
pub copied_sums : {E : Type 0} (r : Result (List (List ℕ)) E) (own all : List (List ℕ)) → own ≡ all → IfOk r (λ s. s ≡ own)
    → IfOk r (λ s. s ≡ all)
copied_sums (Ok s) own all e h = h ∙ e
copied_sums (Err x) own all e h = h

-- Sums of what is held are kept.
pub now_kept : (kept : KeptSums) (m : Meaning) → IsMeaning m → ArePartSums (state_of m) 0 kept.parts.items → kept.receipts ≡ length m.held
    → AreKeptSums kept (state_of m)
now_kept kept m valid sums receipts = record {
  before = state_of m;
  rising = rises m valid;
  grown = record { receipts = λ r h. h; distrusts = λ x h. h };
  sums = sums;
  receipts = receipts;
}

-- The first of some sums.
pub first_of_parts : (parts : List CountedSum) (k : CountedSum) → slice_get parts 0 ≡ Some k → (rest : List CountedSum) × (parts ≡ k ∷ rest)
first_of_parts [] k is = absurd (let no : None ≡ Some k = is in cc)
first_of_parts (one ∷ parts) k is =
    let same : one ≡ k = (let s : Some one ≡ Some k = is in cc) in
    (parts, ap (λ (x : CountedSum). x ∷ parts) same)

-- Sums that are kept are still kept when what is held has grown.
pub kept_grown : (kept : KeptSums) (old new : State) → AreKeptSums kept old → IsPartOf old new → AreKeptSums kept new
kept_grown kept old new were more = record {
  before = were.before;
  rising = were.rising;
  grown = record {
    receipts = λ r h. more.receipts r (were.grown.receipts r h);
    distrusts = λ x h. more.distrusts x (were.grown.distrusts x h);
  };
  sums = were.sums;
  receipts = were.receipts;
}
