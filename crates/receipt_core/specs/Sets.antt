-- What holds of finite sets that are kept as strictly sorted lists.
use Rattle.std.specs.Prelude.{◌≡◌, ◌+◌, ◌↔◌, ◌⊎◌, List, length, Contains}
use Rattle.std.specs.declared.cmp.Ordering.{Ordering}
use Rattle.std.specs.declared.cmp.Ordering.TheVariants.{Equal}
use Rattle.std.specs.Cmp.{IsTotalOrder}
use Rattle.std.specs.List.{AllByRecursion}
use Rattle.std.specs.List.Sorted.{IsStrictlySortedBy}
use Rattle.receipt_core.specs.Rising.{with_item, with_items}

-- Lists of items with the property that rise by the order are sets: an item goes in once, whatever
-- the order of insertions, and lists with the same members are equal.
pub record AreSets {A : Type 0} (P : A → Type 0) (cmp : A → A → Ordering) : Type 0 where
  pub total : IsTotalOrder cmp
  pub exact : (a b : A) → P a → P b → cmp a b ≡ Equal → a ≡ b
  pub keeps : (item : A) (set : List A) → P item → AllByRecursion P set
      → AllByRecursion P (with_item cmp item set)
  pub rises : (item : A) (set : List A) → IsStrictlySortedBy cmp set
      → IsStrictlySortedBy cmp (with_item cmp item set)
  pub members : (item a : A) (set : List A) → P item → AllByRecursion P set
      → Contains (with_item cmp item set) a ↔ ((item ≡ a) ⊎ Contains set a)
  pub present : (item : A) (set : List A) → IsStrictlySortedBy cmp set → Contains set item
      → with_item cmp item set ≡ set
  pub longer : (item : A) (set : List A) → P item → AllByRecursion P set → (Contains set item → ⊥)
      → length (with_item cmp item set) ≡ length set + 1
  pub swap : (a b : A) (set : List A) → P a → P b → AllByRecursion P set
      → IsStrictlySortedBy cmp set
      → with_item cmp a (with_item cmp b set) ≡ with_item cmp b (with_item cmp a set)
  pub equal : (xs ys : List A) → IsStrictlySortedBy cmp xs → IsStrictlySortedBy cmp ys
      → ((a : A) → Contains xs a ↔ Contains ys a) → xs ≡ ys
  pub all_keep : (items set : List A) → AllByRecursion P items → AllByRecursion P set
      → AllByRecursion P (with_items cmp items set)
  pub all_rise : (items set : List A) → IsStrictlySortedBy cmp set
      → IsStrictlySortedBy cmp (with_items cmp items set)
  pub all_members : (items set : List A) (a : A) → AllByRecursion P items → AllByRecursion P set
      → Contains (with_items cmp items set) a ↔ (Contains items a ⊎ Contains set a)

-- no condition
abbrev pub Always : {A : Type 0} → A → Type 0
Always a = Unit {0}
