-- Joined sets, and the union of two meanings
use Rattle.std.proofs.Common.{◌≡◌, ◌⊎◌, inl, inr, List, [], ◌∷◌, refl}
use Rattle.std.specs.declared.cmp.Ordering.{Ordering}
use Rattle.std.specs.List.{AllByRecursion, Contains}
use Rattle.std.specs.List.Sorted.{IsStrictlySortedBy}
use Rattle.receipt_core.specs.declared.distrust.Distrust.{Distrust}
use Rattle.receipt_core.specs.Order.{receipt_total, distrust_total}
use Rattle.receipt_core.specs.Receipt.{IsReceipt, receipt_cmp, distrust_cmp}
use Rattle.receipt_core.specs.Rising.{with_items}
use Rattle.receipt_core.specs.Sets.{AreSets, Always}
use Rattle.receipt_core.specs.Acceptance.{Meaning, IsMeaning}
use Rattle.receipt_core.proofs.LineFacts.{one_receipt, one_distrust}
use Rattle.receipt_core.proofs.RisingFacts.{AreSets-from_total}
use Rattle.closure_core.specs.Changes.{union_of}

-- ---- sets of receipts and of records

-- strictly sorted lists of receipts are sets
pub receipt_sets : AreSets IsReceipt receipt_cmp
receipt_sets = AreSets-from_total IsReceipt receipt_cmp receipt_total one_receipt

-- strictly sorted lists of records of distrust are sets
pub record_sets : AreSets Always distrust_cmp
record_sets = AreSets-from_total Always distrust_cmp distrust_total (λ x y p q e. one_distrust x y e)

-- all records have the property that has no condition
pub always : (xs : List Distrust) → AllByRecursion Always xs
always [] = tt
always (x ∷ xs) = (tt, always xs)

-- ---- joined sets

module _ {A : Type 0} (P : A → Type 0) (cmp : A → A → Ordering) (sets : AreSets P cmp) where
  -- what is a member of either is so in either order
  turned : (a : A) (xs ys : List A) → Contains xs a ⊎ Contains ys a → Contains ys a ⊎ Contains xs a
  turned a xs ys h = elim h [ inl x ↦ inr x | inr y ↦ inl y ]

  -- two sets joined in either order are one set
  pub join_order : (xs ys : List A) → AllByRecursion P xs → AllByRecursion P ys → IsStrictlySortedBy cmp xs
      → IsStrictlySortedBy cmp ys → with_items cmp ys xs ≡ with_items cmp xs ys
  join_order xs ys all_xs all_ys xs_rise ys_rise =
      sets.equal (with_items cmp ys xs) (with_items cmp xs ys) (sets.all_rise ys xs xs_rise) (sets.all_rise xs ys ys_rise)
      (λ a. (
        λ h. (sets.all_members xs ys a all_xs all_ys).1 (turned a ys xs ((sets.all_members ys xs a all_ys all_xs).0 h)),
        λ h. (sets.all_members ys xs a all_ys all_xs).1 (turned a xs ys ((sets.all_members xs ys a all_xs all_ys).0 h)),
      ))

  -- three sets joined in either grouping are one set
  pub join_grouping : (xs ys zs : List A) → AllByRecursion P xs → AllByRecursion P ys → AllByRecursion P zs
      → IsStrictlySortedBy cmp xs → with_items cmp zs (with_items cmp ys xs) ≡ with_items cmp (with_items cmp zs ys) xs
  join_grouping xs ys zs all_xs all_ys all_zs xs_rise =
      let two = sets.all_keep ys xs all_ys all_xs in
      let later = sets.all_keep zs ys all_zs all_ys in
      sets.equal (with_items cmp zs (with_items cmp ys xs)) (with_items cmp (with_items cmp zs ys) xs)
      (sets.all_rise zs (with_items cmp ys xs) (sets.all_rise ys xs xs_rise)) (sets.all_rise (with_items cmp zs ys) xs xs_rise)
      (λ a. (
        λ h. (sets.all_members (with_items cmp zs ys) xs a later all_xs).1
            (elim ((sets.all_members zs (with_items cmp ys xs) a all_zs two).0 h) [
              | inl z ↦ inl ((sets.all_members zs ys a all_zs all_ys).1 (inl z))
              | inr k ↦ elim ((sets.all_members ys xs a all_ys all_xs).0 k) [
                | inl y ↦ inl ((sets.all_members zs ys a all_zs all_ys).1 (inr y))
                | inr x ↦ inr x
              ]
            ]),
        λ h. (sets.all_members zs (with_items cmp ys xs) a all_zs two).1
            (elim ((sets.all_members (with_items cmp zs ys) xs a later all_xs).0 h) [
              | inl k ↦ elim ((sets.all_members zs ys a all_zs all_ys).0 k) [
                | inl z ↦ inl z
                | inr y ↦ inr ((sets.all_members ys xs a all_ys all_xs).1 (inl y))
              ]
              | inr x ↦ inr ((sets.all_members ys xs a all_ys all_xs).1 (inr x))
            ]),
      ))

  -- a set joined with itself is itself
  pub join_itself : (xs : List A) → AllByRecursion P xs → IsStrictlySortedBy cmp xs → with_items cmp xs xs ≡ xs
  join_itself xs all rise =
      sets.equal (with_items cmp xs xs) xs (sets.all_rise xs xs rise) rise
      (λ a. (
        λ h. elim ((sets.all_members xs xs a all all).0 h) [ inl x ↦ x | inr x ↦ x ],
        λ h. (sets.all_members xs xs a all all).1 (inl h),
      ))

-- ---- the union of two meanings

-- meanings with equal parts are equal
same_parts : (m n : Meaning) → m.config ≡ n.config → m.held ≡ n.held → m.records ≡ n.records → m ≡ n
same_parts m n c h r = λ i. record { config = c i; held = h i; records = r i }

-- the same is held in the union from either side
pub union_order : (m n : Meaning) → IsMeaning m → IsMeaning n → union_of m n ≡ record (union_of n m) { config = m.config }
union_order m n is are =
    same_parts (union_of m n) (record (union_of n m) { config = m.config }) refl
    (join_order IsReceipt receipt_cmp receipt_sets m.held n.held is.receipts are.receipts is.rising are.rising)
    (join_order Always distrust_cmp record_sets m.records n.records (always m.records) (always n.records)
    is.records_rising are.records_rising)

-- a union with a union is the union of all three
pub union_grouping : (l m n : Meaning) → IsMeaning l → IsMeaning m → IsMeaning n
    → union_of (union_of l m) n ≡ union_of l (union_of m n)
union_grouping l m n is are own =
    same_parts (union_of (union_of l m) n) (union_of l (union_of m n)) refl
    (join_grouping IsReceipt receipt_cmp receipt_sets l.held m.held n.held is.receipts are.receipts own.receipts is.rising)
    (join_grouping Always distrust_cmp record_sets l.records m.records n.records (always l.records)
    (always m.records) (always n.records) is.records_rising)

-- the union with itself is itself
pub union_itself : (m : Meaning) → IsMeaning m → union_of m m ≡ m
union_itself m is =
    same_parts (union_of m m) m refl
    (join_itself IsReceipt receipt_cmp receipt_sets m.held is.receipts is.rising)
    (join_itself Always distrust_cmp record_sets m.records (always m.records) is.records_rising)
