-- How a closure changes
use Rattle.std.specs.Prelude.{◌≡◌, ℕ, ◌+◌, ◌<◌, ◌≤◌, [], length, Contains, Result, MatchResult}
use Rattle.fed_config.specs.Configuration.{Configuration, HasDomain}
use Rattle.receipt_core.specs.declared.distrust.Distrust.{Distrust}
use Rattle.receipt_core.specs.Receipt.{Receipt, Pair, pair_of, offers_of, with_receipt}
use Rattle.receipt_core.specs.Receipt.{with_distrust}
use Rattle.receipt_core.specs.Acceptance.{IsFitting, Meaning, IsMember}
use Rattle.closure_core.specs.declared.error.TakeError.{TakeError}
use Rattle.closure_core.specs.declared.outcome.Refused.{Refused}
use Rattle.closure_core.specs.declared.outcome.Taken.{Taken}
use Rattle.closure_core.specs.declared.outcome.Taken.TheVariants.{New as TakenNew}
use Rattle.closure_core.specs.declared.outcome.Taken.TheVariants.{Already as TakenAlready}
use Rattle.closure_core.specs.declared.outcome.Distrusted.{Distrusted}
use Rattle.closure_core.specs.declared.outcome.Distrusted.TheVariants.{New as DistrustedNew}
use Rattle.closure_core.specs.declared.outcome.Distrusted.TheVariants.{Already as DistrustedAlready}
use Rattle.closure_core.specs.Count.{IsCount}
use Rattle.closure_core.specs.Refusals.{Room, IsRoomier, RefusesReceipt, RefusesDistrust}
use Rattle.closure_core.specs.Refusals.{RefusesMerge, IsOfConfig, all_receipts, all_records}
use Rattle.closure_core.specs.Refusals.{offers_count}
use Rattle.receipt_core.specs.Limits.{receipt_limit, record_limit}

-- what a closure holds, and how much more it has memory for
pub record HeldAndRoom : Type 0 where
  pub meaning : Meaning
  pub room : Room

-- without any receipt or record
abbrev pub empty_of : Configuration → Meaning
empty_of c = record { config = c; held = []; records = [] }

-- exactly n documents of domains are accepted in the one and not in the other
abbrev pub IsGain : Meaning → Meaning → ℕ → Type 0
IsGain old new n = IsCount (λ (p : Pair). IsMember new p × (IsMember old p → ⊥)) n

-- The meaning is the same, and the room is kept or has grown.
pub record IsUnchanged (old new : HeldAndRoom) : Type 0 where
  pub meaning : new.meaning ≡ old.meaning
  pub room : IsRoomier old.room new.room

-- ---- one receipt

-- It fits, was not held and is held now; it has taken no more room than that of one receipt and its
-- offers.
pub record HasTaken (old : HeldAndRoom) (r : Receipt) (new : HeldAndRoom)
    (accepted_now : ℕ) : Type 0 where
  pub fits : IsFitting old.meaning.config r
  pub unheld : Contains old.meaning.held r → ⊥
  pub few : length old.meaning.held < receipt_limit old.meaning.config
  pub meaning : new.meaning ≡ record old.meaning { held = with_receipt r old.meaning.held }
  pub gain : IsGain old.meaning new.meaning accepted_now
  pub receipts : old.room.receipts ≤ new.room.receipts + 1
  pub offers : old.room.offers ≤ new.room.offers + length (offers_of (pair_of r))

-- It was held, and all is as it was.
pub record HasReceiptAlready (old : HeldAndRoom) (r : Receipt) (new : HeldAndRoom) : Type 0 where
  pub held : Contains old.meaning.held r
  pub same : new ≡ old

abbrev pub TakesOk : HeldAndRoom → Receipt → HeldAndRoom → Taken → Type 0
TakesOk old r new (TakenNew accepted_now) = HasTaken old r new accepted_now
TakesOk old r new TakenAlready = HasReceiptAlready old r new

-- The receipt comes back, and nothing is lost.
pub record HasRefused (old : HeldAndRoom) (r : Receipt) (new : HeldAndRoom)
    (refused : Refused) : Type 0 where
  pub receipt : refused.receipt ≡ r
  pub cause : RefusesReceipt old.meaning old.room r refused.why
  pub unchanged : IsUnchanged old new

abbrev pub Takes : HeldAndRoom → Receipt → HeldAndRoom → Result Taken Refused → Type 0
Takes old r new result = MatchResult result (TakesOk old r new) (HasRefused old r new)

-- ---- one record of distrust

-- Its domain is one of the configuration, it was not held and is held now.
pub record HasDistrusted (old : Meaning) (x : Distrust) (new : Meaning) (lost : ℕ) : Type 0 where
  pub domain : HasDomain old.config x.domain
  pub unheld : Contains old.records x → ⊥
  pub few : length old.records < record_limit old.config
  pub meaning : new ≡ record old { records = with_distrust x old.records }
  pub loss : IsGain new old lost

-- It was held, and all is as it was.
pub record HasRecordAlready (old : Meaning) (x : Distrust) (new : Meaning) : Type 0 where
  pub held : Contains old.records x
  pub meaning : new ≡ old

abbrev pub Distrusts : Meaning → Distrust → Meaning → Distrusted → Type 0
Distrusts old x new (DistrustedNew lost) = HasDistrusted old x new lost
Distrusts old x new DistrustedAlready = HasRecordAlready old x new

-- Nothing has changed.
pub record HasRefusedDistrust (old : Meaning) (x : Distrust) (new : Meaning)
    (why : TakeError) : Type 0 where
  pub cause : RefusesDistrust old x why
  pub meaning : new ≡ old

abbrev pub TakesDistrust : Meaning → Distrust → Meaning → Result Distrusted TakeError → Type 0
TakesDistrust old x new result = MatchResult result (Distrusts old x new)
    (HasRefusedDistrust old x new)

-- ---- another closure

-- what both hold, under the configuration of the first
abbrev pub union_of : Meaning → Meaning → Meaning
union_of m other = record {
  config = m.config;
  held = all_receipts m other;
  records = all_records m other;
}

-- Receipts and records are those of both, and n receipts were not held.
pub record HasMerged (old other new : Meaning) (n : ℕ) : Type 0 where
  pub of_config : IsOfConfig old other
  pub few : length (all_receipts old other) ≤ receipt_limit old.config
  pub few_records : length (all_records old other) ≤ record_limit old.config
  pub meaning : new ≡ union_of old other
  pub count : length (all_receipts old other) ≡ length old.held + n

-- Both together are held, and no more room has gone than that of the n receipts and their offers.
pub record HasMergedInRoom (old : HeldAndRoom) (other : Meaning) (new : HeldAndRoom)
    (n : ℕ) : Type 0 where
  pub merged : HasMerged old.meaning other new.meaning n
  pub receipts : old.room.receipts ≤ new.room.receipts + n
  pub offers : old.room.offers + offers_count old.meaning.held
      ≤ new.room.offers + offers_count (all_receipts old.meaning other)

-- Nothing is joined.
pub record HasRefusedMerge (old : HeldAndRoom) (other : Meaning) (new : HeldAndRoom)
    (why : TakeError) : Type 0 where
  pub cause : RefusesMerge old.meaning other why
  pub unchanged : IsUnchanged old new

abbrev pub Merges : HeldAndRoom → Meaning → HeldAndRoom → Result ℕ TakeError → Type 0
Merges old other new result = MatchResult result (HasMergedInRoom old other new)
    (HasRefusedMerge old other new)
