-- What is asked of the joins of sets.
use Rattle.std.proofs.Common.{◌≡◌, ℕ, ◌⊎◌, inl, inr, List, [], ◌∷◌, length, ◌-◌}
use Rattle.std.specs.Prelude.{Contains, ◌↔◌}
use Rattle.std.specs.declared.cmp.Ordering.{Ordering}
use Rattle.std.specs.List.{AllByRecursion}
use Rattle.std.specs.List.Sorted.{IsStrictlySortedBy}
use Rattle.receipt_core.specs.declared.distrust.Distrust.{Distrust}
use Rattle.receipt_core.specs.Receipt.{Receipt, IsReceipt, receipt_cmp, IsDistrust, distrust_cmp}
use Rattle.receipt_core.specs.Rising.{with_items}
use Rattle.receipt_core.specs.Sets.{AreSets}
use Rattle.receipt_core.proofs.RisingFacts.{Contains-from_has, Has-from_contains, with_items-has, with_items-keeps}
use Rattle.replica_core.specs.State.{State, joined, first_of}
use Rattle.replica_core.proofs.ContainsFacts.{take-from}

-- the set with the items has both and nothing else, and it rises; one set has one sorted list
pub record JoinLaws {A : Type 0} (cmp : A → A → Ordering) (P : A → Type 0) : Type 0 where
  pub old : (items set : List A) (x : A) → Contains set x → Contains (with_items cmp items set) x
  pub only : (items set : List A) (x : A) → Contains (with_items cmp items set) x → Contains items x ⊎ Contains set x
  pub new : (items set : List A) (x : A) → AllByRecursion P items → AllByRecursion P set → Contains items x → Contains (with_items cmp items set) x
  pub rising : (items set : List A) → IsStrictlySortedBy cmp set → IsStrictlySortedBy cmp (with_items cmp items set)
  pub one : (set other : List A) → IsStrictlySortedBy cmp set → IsStrictlySortedBy cmp other → ((x : A) → Contains set x ↔ Contains other x) → set ≡ other

-- what the proofs about worlds know of sets of receipts and of records
pub record Laws : Type 0 where
  pub receipts : JoinLaws receipt_cmp IsReceipt
  pub records : JoinLaws distrust_cmp IsDistrust

-- Adding items to a set loses none of it.
pub joined-old : {A : Type 0} (cmp : A → A → Ordering) (items set : List A) (x : A) → Contains set x → Contains (with_items cmp items set) x
joined-old cmp items set x c = Contains-from_has (with_items cmp items set) x (with_items-keeps cmp items set x (Has-from_contains set x c))

-- Adding items to a set adds nothing else.
pub joined-only : {A : Type 0} (cmp : A → A → Ordering) (items set : List A) (x : A) → Contains (with_items cmp items set) x → Contains items x ⊎ Contains set x
joined-only cmp items set x c =
    elim (with_items-has cmp items set x (Has-from_contains (with_items cmp items set) x c)) [
      | inl h ↦ inl (Contains-from_has items x h)
      | inr h ↦ inr (Contains-from_has set x h)
    ]

-- If all items have a property, they have each weaker one.
pub all-map : {A : Type 0} (P Q : A → Type 0) → ((x : A) → P x → Q x) → (xs : List A) → AllByRecursion P xs → AllByRecursion Q xs
all-map P Q pq [] h = tt
all-map P Q pq (x ∷ xs) h = (pq x h.0, all-map P Q pq xs h.1)

-- The sets of the crate below keep the laws of joins.
pub joins-of : {A : Type 0} (cmp : A → A → Ordering) (P Q : A → Type 0) → ((x : A) → P x → Q x) → AreSets Q cmp → JoinLaws cmp P
joins-of cmp P Q pq sets = record {
  old = joined-old cmp;
  only = joined-only cmp;
  new = λ items set x i s c. (sets.all_members items set x (all-map P Q pq items i) (all-map P Q pq set s)).1 (inl c);
  rising = sets.all_rise;
  one = sets.equal;
}

-- each receipt and each record of the state has the property
pub record Keeps (P : Receipt → Type 0) (Q : Distrust → Type 0) (state : State) : Type 0 where
  pub receipts : (r : Receipt) → Contains state.held r → P r
  pub records : (x : Distrust) → Contains state.records x → Q x

-- What holds of a state and of a gain holds of both together.
pub keeps-joined : (laws : Laws) (P : Receipt → Type 0) (Q : Distrust → Type 0) (state gain : State) → Keeps P Q state
    → Keeps P Q gain → Keeps P Q (joined state gain)
keeps-joined laws P Q state gain s g = record {
  receipts = λ r c. elim (laws.receipts.only gain.held state.held r c) [ inl a ↦ g.receipts r a | inr b ↦ s.receipts r b ];
  records = λ x c. elim (laws.records.only gain.records state.records x c) [ inl a ↦ g.records x a | inr b ↦ s.records x b ];
}

-- What holds of an answer holds of its first entries.
pub keeps-first : (P : Receipt → Type 0) (Q : Distrust → Type 0) (count : ℕ) (gain : State) → Keeps P Q gain → Keeps P Q (first_of count gain)
keeps-first P Q count gain g = record {
  receipts = λ r c. g.receipts r (take-from (count - length gain.records) gain.held r c);
  records = λ x c. g.records x (take-from count gain.records x c);
}
