-- What a caller sees of an arena
use Rattle.std.specs.Prelude.{◌≡◌, ℕ, ◌<◌, List, length, slice_get, slice_index, Option, Some, None}
use Rattle.std.specs.Prelude.{Result, MatchResult}
use Rattle.std.specs.declared.cmp.Ordering.{Ordering}
use Rattle.std.specs.declared.cmp.Ordering.TheVariants.{Equal}
use Rattle.std.specs.List.{All, Contains, HoldsAt, filter_map}
use Rattle.sorted_order.specs.Sought.{IsFound, IsMissing}

-- the items in order of arrival, their numbers in the caller's order, and how many there is room
-- for in all
pub record ArenaView (T : Type 0) : Type 0 where
  pub items : List T
  pub order : List ℕ
  pub capacity : ℕ

-- the items with these numbers
abbrev pub picked : {T : Type 0} → List T → List ℕ → List T
picked items numbers = filter_map (slice_get items) numbers

-- the items in the caller's order
abbrev pub in_order : {T : Type 0} → ArenaView T → List T
in_order stock = picked stock.items stock.order

-- Each number below the count is in the order, and no other, and none twice.
pub record Arranges (order : List ℕ) (count : ℕ) : Type 0 where
  pub counted : length order ≡ count
  pub within : All (λ number. number < count) order
  pub each : (number : ℕ) → number < count → Contains order number

-- how the item with a number compares to what is sought
abbrev pub compared_if : {T : Type 0} → (T → Ordering) → Option T → Ordering
compared_if compared None = Equal
compared_if compared (Some item) = compared item

abbrev pub compared_at : {T : Type 0} → (T → Ordering) → List T → ℕ → Ordering
compared_at compared items number = compared_if compared (slice_get items number)

-- The number is that of the first item in its place, in the caller's order.
pub record IsNumber {T : Type 0} (compared : T → Ordering) (stock : ArenaView T)
    (number : ℕ) : Type 0 where
  pub within : number < length stock.items
  pub equal : HoldsAt (λ item. compared item ≡ Equal) stock.items number
  pub place : ℕ
  pub found : IsFound compared (in_order stock) place
  pub numbered : slice_index stock.order place ≡ number

-- what a search answers: the item's number, or the place that it would have in the order
abbrev pub FindsNumber : {T : Type 0} → (T → Ordering) → ArenaView T → Result ℕ ℕ → Type 0
FindsNumber compared stock result = MatchResult result (IsNumber compared stock)
    (IsMissing compared (in_order stock))
