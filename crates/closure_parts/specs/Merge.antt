-- What a closure takes in from another one
use Rattle.std.specs.Prelude.{◌≡◌, ◌+◌, ◌≤◌, List, length, Contains, Option, Some}
use Rattle.fed_config.specs.Configuration.{Configuration, HasDomain}
use Rattle.receipt_core.specs.declared.distrust.Distrust.{Distrust}
use Rattle.receipt_core.specs.Receipt.{Receipt, receipt_cmp, distrust_cmp}
use Rattle.receipt_core.specs.Rising.{with_items}
use Rattle.receipt_core.specs.Acceptance.{IsFitting, Meaning}
use Rattle.closure_core.specs.Refusals.{IsRoomier, IsOfConfig, IsOfUnknownDomain, IsOfWrongEndpoint}
use Rattle.closure_core.specs.Refusals.{IsBelowFloor, all_receipts, all_records, offers_count, Room}
use Rattle.closure_core.specs.Changes.{HeldAndRoom}
use Rattle.closure_core.specs.declared.error.TakeError.{TakeError}
use Rattle.closure_core.specs.declared.error.TakeError.TheVariants.{UnknownDomain, WrongEndpoint}
use Rattle.closure_core.specs.declared.error.TakeError.TheVariants.{BelowFloor}
use Rattle.closure_parts.specs.declared.copies.MergePlan.{MergePlan}
use Rattle.receipt_core.specs.Limits.{receipt_limit, record_limit}

-- Both together are of one configuration, and no more than one holds.
pub record IsMergeable (m other : Meaning) : Type 0 where
  pub of_config : IsOfConfig m other
  pub few : length (all_receipts m other) ≤ receipt_limit m.config
  pub few_records : length (all_records m other) ≤ record_limit m.config

-- The other has a receipt that is not held.
abbrev pub HasNew : Meaning → Meaning → Type 0
HasNew m other = (r : Receipt) × Contains other.held r × (Contains m.held r → ⊥)

-- These are the receipts of the other that are not held, each once.
pub record AreCopies (m other : Meaning) (copies : List Receipt) : Type 0 where
  pub all : with_items receipt_cmp copies m.held ≡ all_receipts m other
  pub each : (r : Receipt) → Contains copies r → Contains other.held r
  pub unheld : (r : Receipt) → Contains copies r → Contains m.held r → ⊥
  pub count : length (all_receipts m other) ≡ length m.held + length copies

-- What is to be taken in, and that it may be.
pub record IsMergePlan (m other : Meaning) (share : MergePlan) : Type 0 where
  pub mergeable : IsMergeable m other
  pub copies : AreCopies m other share.copies.items
  pub offers : offers_count share.copies.items ≡ share.offers

-- The first of these causes that holds for one of the receipts: its domain is unknown, its endpoint
-- is another, or its document is below a floor.
abbrev pub RefusesFitOfOne : Configuration → List Receipt → TakeError → Type 0
RefusesFitOfOne c receipts UnknownDomain = (r : Receipt) × Contains receipts r
    × IsOfUnknownDomain c r
RefusesFitOfOne c receipts WrongEndpoint =
    ((r : Receipt) → Contains receipts r → IsOfUnknownDomain c r → ⊥)
    × ((r : Receipt) × Contains receipts r × IsOfWrongEndpoint c r)
RefusesFitOfOne c receipts BelowFloor =
    ((r : Receipt) → Contains receipts r → IsOfUnknownDomain c r → ⊥)
    × ((r : Receipt) → Contains receipts r → IsOfWrongEndpoint c r → ⊥)
    × ((r : Receipt) × Contains receipts r × IsBelowFloor c r)
RefusesFitOfOne c receipts _ = ⊥

-- the first of a cause that was found before and another, neither of them an unknown domain
abbrev pub first_cause_of : Option TakeError → TakeError → TakeError
first_cause_of (Some WrongEndpoint) why = WrongEndpoint
first_cause_of _ why = why

-- These are of domains of the configuration, and together with what is held no more than one holds.
pub record AreKnown (m : Meaning) (records : List Distrust) : Type 0 where
  pub domains : (x : Distrust) → Contains records x → HasDomain m.config x.domain
  pub few : length (with_items distrust_cmp records m.records) ≤ record_limit m.config

-- No more room has gone than that of these receipts and their offers.
pub record HasSpentOn (old : Room) (taken : List Receipt) (new : Room) : Type 0 where
  pub receipts : old.receipts ≤ new.receipts + length taken
  pub offers : old.offers ≤ new.offers + offers_count taken

-- These fit, there may be this many more, and there is room for them.
pub record FitWithinRoom (old : HeldAndRoom) (receipts : List Receipt) : Type 0 where
  pub fitting : (r : Receipt) → Contains receipts r → IsFitting old.meaning.config r
  pub few : length old.meaning.held + length receipts ≤ receipt_limit old.meaning.config
  pub room : IsRoomier (record { receipts = length receipts; offers = offers_count receipts })
      old.room

-- All these records were held before.
abbrev pub AreOld : Meaning → List Distrust → Type 0
AreOld m records = (x : Distrust) → Contains records x → Contains m.records x

-- One of these records was not held before.
pub record HasNewRecord (m : Meaning) (records : List Distrust) : Type 0 where
  pub added : Distrust
  pub among : Contains records added
  pub unheld : Contains m.records added → ⊥
