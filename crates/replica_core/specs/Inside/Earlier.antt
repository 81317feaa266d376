-- The items of a list that came before one of them, known by numbers of theirs in order.
use Rattle.std.specs.Prelude.{◌≡◌, ℕ, ◌<◌, Bool, List, length, take}
use Rattle.std.specs.declared.cmp.Ordering.{Ordering}
use Rattle.std.specs.Ordering.{eq_by_cmp}
use Rattle.std.specs.List.{All, list_any}
use Rattle.std.specs.List.Sorted.{IsStrictlySortedBy}
use Rattle.sorted_order.specs.ArenaView.{picked}

-- a list, and how many of its items came before
pub record Front (T : Type 0) : Type 0 where
  pub items : List T
  pub count : ℕ

-- those that came before
abbrev pub passed : {T : Type 0} → Front T → List T
passed front = take front.count front.items

-- one of these items is equal to the one that is sought
abbrev pub has_equal : {T : Type 0} → (T → T → Ordering) → List T → T → Bool
has_equal cmp items sought = list_any (λ item. eq_by_cmp cmp item sought) items

-- The numbers are of items that rise, and an item is equal to one of these exactly if it is equal
-- to one of those that came before.
pub record AreNoted {T : Type 0} (cmp : T → T → Ordering) (items : List T) (count : ℕ)
    (numbers : List ℕ) : Type 0 where
  pub within : All (λ number. number < length items) numbers
  pub rising : IsStrictlySortedBy cmp (picked items numbers)
  pub same : (x : T) → has_equal cmp (picked items numbers) x ≡ has_equal cmp (take count items) x
