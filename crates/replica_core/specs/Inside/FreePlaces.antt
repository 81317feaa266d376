-- Places for more receipts and records.
use Rattle.std.specs.Prelude.{◌+◌, ◌-◌, ◌^◌, ◌<◌, Contains, List, length, ℕ, ◌≡◌, ◌≤◌, ◌⊎◌}
use Rattle.std.specs.Prelude.{Option, Some, None}
use Rattle.std.specs.declared.cmp.Ordering.{Ordering}
use Rattle.receipt_core.specs.Receipt.{Receipt}
use Rattle.receipt_core.specs.Rising.{with_item}
use Rattle.receipt_core.specs.Acceptance.{Meaning}
use Rattle.replica_core.specs.Absorbing.{room_for, BringsNew}

-- With this many held already and this many items left, this many places are free: exactly this
-- many, or at least this many and enough for all that are left.
pub record HasPlaces (limit held free left : ℕ) : Type 0 where
  pub few : held + free ≤ limit
  pub exact : (left ≤ free) ⊎ (held + free ≡ limit)

-- It is not among them, and they have reached the limit.
pub record HasNoPlace {X : Type 0} (limit : ℕ) (set : List X) (item : X) : Type 0 where
  pub unheld : Contains set item → ⊥
  pub full : limit ≤ length set

-- It may be held, and then this many places are free for the others.
pub record HasPlace {X : Type 0} (cmp : X → X → Ordering) (limit : ℕ) (set : List X) (item : X)
    (left more : ℕ) : Type 0 where
  pub place : Contains set item ⊎ (length set < limit)
  pub after : HasPlaces limit (length (with_item cmp item set)) more (left - 1)

-- What is counted of receipts: those that are not held, each once, and their offers, of which there
-- are 0 if all are held; or these have more offers than a number of 64 bits says.
abbrev pub CountsNew : Meaning → List Receipt → Option (ℕ × ℕ) → Type 0
CountsNew m receipts None = BringsNew m receipts × (2 ^ 64 ≤ (room_for m receipts).offers)
CountsNew m receipts (Some counted) =
    (room_for m receipts ≡ record { receipts = counted.0; offers = counted.1 })
    × (((counted.0 ≡ 0) × (counted.1 ≡ 0)) ⊎ BringsNew m receipts)
