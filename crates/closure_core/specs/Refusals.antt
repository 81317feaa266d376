-- Why a closure refuses a receipt, a record of distrust, or all that another one holds
use Rattle.std.specs.Prelude.{◌≡◌, ℕ, ◌<◌, ◌≤◌, ◌⊎◌, List, length, Contains}
use Rattle.std.specs.Prelude.{sum_by}
use Rattle.fed_config.specs.Configuration.{Configuration, HasDomain, config_id_of}
use Rattle.fed_config.specs.declared.relationship.Relationship.{Relationship}
use Rattle.receipt_core.specs.declared.distrust.Distrust.{Distrust}
use Rattle.receipt_core.specs.Receipt.{Receipt, receipt_cmp, distrust_cmp, pair_of, offers_of}
use Rattle.receipt_core.specs.Rising.{with_items}
use Rattle.receipt_core.specs.Acceptance.{IsFitting, Meaning, MissesFloor}
use Rattle.closure_core.specs.declared.error.TakeError.{TakeError}
use Rattle.closure_core.specs.declared.error.TakeError.TheVariants.{UnknownDomain, WrongEndpoint}
use Rattle.closure_core.specs.declared.error.TakeError.TheVariants.{BelowFloor, Full, NoMemory}
use Rattle.closure_core.specs.declared.error.TakeError.TheVariants.{ConfigDiffers}
use Rattle.receipt_core.specs.Limits.{receipt_limit, record_limit}

-- for how many receipts, and for how many offers of theirs, there is memory already
pub record Room : Type 0 where
  pub receipts : ℕ
  pub offers : ℕ

-- the room is kept or has grown
pub record IsRoomier (old new : Room) : Type 0 where
  pub receipts : old.receipts ≤ new.receipts
  pub offers : old.offers ≤ new.offers

-- how many offers these receipts have together
abbrev pub offers_count : List Receipt → ℕ
offers_count receipts = sum_by (λ r. length (offers_of (pair_of r))) receipts

-- the configuration has no relationship with the receipt's domain
abbrev pub IsOfUnknownDomain : Configuration → Receipt → Type 0
IsOfUnknownDomain c r = (x : Relationship) → Contains c.relationships x → x.domain ≡ r.domain → ⊥

-- it has one, whose endpoint is another
pub record IsOfWrongEndpoint (c : Configuration) (r : Receipt) : Type 0 where
  pub relationship : Relationship
  pub has : Contains c.relationships relationship
  pub domain : relationship.domain ≡ r.domain
  pub other : relationship.endpoint ≡ r.endpoint → ⊥

-- it has one with the receipt's endpoint, and the document is below the floor of the domain
pub record IsBelowFloor (c : Configuration) (r : Receipt) : Type 0 where
  pub relationship : Relationship
  pub has : Contains c.relationships relationship
  pub domain : relationship.domain ≡ r.domain
  pub endpoint : relationship.endpoint ≡ r.endpoint
  pub misses : MissesFloor c r.domain r.document

-- The receipt does not fit, and this is why.
abbrev pub RefusesFit : Configuration → Receipt → TakeError → Type 0
RefusesFit c r UnknownDomain = IsOfUnknownDomain c r
RefusesFit c r WrongEndpoint = IsOfWrongEndpoint c r
RefusesFit c r BelowFloor = IsBelowFloor c r
RefusesFit c r _ = ⊥

-- ---- one receipt

-- there is no memory for one more receipt and its offers already
abbrev pub IsBeyond : Room → Receipt → Type 0
IsBeyond room r = 0 < room.receipts → length (offers_of (pair_of r)) ≤ room.offers → ⊥

-- The receipt fits and is new, and no more may be held.
pub record IsOneTooMany (m : Meaning) (r : Receipt) : Type 0 where
  pub fits : IsFitting m.config r
  pub unheld : Contains m.held r → ⊥
  pub full : receipt_limit m.config ≤ length m.held

-- Nothing else was in the way, and memory had to be asked for.
pub record WantsMemory (m : Meaning) (room : Room) (r : Receipt) : Type 0 where
  pub fits : IsFitting m.config r
  pub unheld : Contains m.held r → ⊥
  pub few : length m.held < receipt_limit m.config
  pub beyond : IsBeyond room r

abbrev pub RefusesReceipt : Meaning → Room → Receipt → TakeError → Type 0
RefusesReceipt m room r UnknownDomain = IsOfUnknownDomain m.config r
RefusesReceipt m room r WrongEndpoint = IsOfWrongEndpoint m.config r
RefusesReceipt m room r BelowFloor = IsBelowFloor m.config r
RefusesReceipt m room r Full = IsOneTooMany m r
RefusesReceipt m room r NoMemory = WantsMemory m room r
RefusesReceipt m room r _ = ⊥

-- ---- one record of distrust

-- The configuration has the domain, the record is new, and no more may be held.
pub record IsOneRecordTooMany (m : Meaning) (x : Distrust) : Type 0 where
  pub domain : HasDomain m.config x.domain
  pub unheld : Contains m.records x → ⊥
  pub full : record_limit m.config ≤ length m.records

abbrev pub RefusesDistrust : Meaning → Distrust → TakeError → Type 0
RefusesDistrust m x UnknownDomain = HasDomain m.config x.domain → ⊥
RefusesDistrust m x Full = IsOneRecordTooMany m x
RefusesDistrust m x _ = ⊥

-- ---- another closure

abbrev pub all_receipts : Meaning → Meaning → List Receipt
all_receipts m other = with_items receipt_cmp other.held m.held

abbrev pub all_records : Meaning → Meaning → List Distrust
all_records m other = with_items distrust_cmp other.records m.records

-- Both have configurations of one digest.
abbrev pub HasSameDigest : Meaning → Meaning → Type 0
HasSameDigest m other = config_id_of m.config ≡ config_id_of other.config

-- What the other holds is of this configuration.
pub record IsOfConfig (m other : Meaning) : Type 0 where
  pub alike : HasSameDigest m other
  pub fitting : (r : Receipt) → Contains other.held r → IsFitting m.config r
  pub domains : (x : Distrust) → Contains other.records x → HasDomain m.config x.domain

-- A receipt or a record that the other holds is of a domain unknown here.
abbrev pub HasUnknownDomain : Meaning → Meaning → Type 0
HasUnknownDomain m other = ((r : Receipt) × Contains other.held r × IsOfUnknownDomain m.config r)
    ⊎ ((x : Distrust) × Contains other.records x × (HasDomain m.config x.domain → ⊥))

-- A receipt of the other has another endpoint than this configuration.
abbrev pub HasWrongEndpoint : Meaning → Meaning → Type 0
HasWrongEndpoint m other = (r : Receipt) × Contains other.held r × IsOfWrongEndpoint m.config r

-- A receipt of the other is below a floor of this configuration.
abbrev pub HasBelowFloor : Meaning → Meaning → Type 0
HasBelowFloor m other = (r : Receipt) × Contains other.held r × IsBelowFloor m.config r

-- Both together are more than one holds.
abbrev pub AreTooMany : Meaning → Meaning → Type 0
AreTooMany m other = (receipt_limit m.config < length (all_receipts m other))
    ⊎ (record_limit m.config < length (all_records m other))

-- Nothing else was in the way, and a receipt had to be copied.
pub record WantsCopies (m other : Meaning) : Type 0 where
  pub of_config : IsOfConfig m other
  pub few : length (all_receipts m other) ≤ receipt_limit m.config
  pub few_records : length (all_records m other) ≤ record_limit m.config
  pub receipt : Receipt
  pub has : Contains other.held receipt
  pub unheld : Contains m.held receipt → ⊥

abbrev pub RefusesMerge : Meaning → Meaning → TakeError → Type 0
RefusesMerge m other UnknownDomain = HasSameDigest m other × HasUnknownDomain m other
RefusesMerge m other WrongEndpoint = HasSameDigest m other × (HasUnknownDomain m other → ⊥)
    × HasWrongEndpoint m other
RefusesMerge m other BelowFloor = HasSameDigest m other × (HasUnknownDomain m other → ⊥)
    × (HasWrongEndpoint m other → ⊥) × HasBelowFloor m other
RefusesMerge m other Full = IsOfConfig m other × AreTooMany m other
RefusesMerge m other NoMemory = WantsCopies m other
RefusesMerge m other ConfigDiffers = HasSameDigest m other → ⊥
