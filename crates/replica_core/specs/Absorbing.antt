-- How an answer of another replica is taken: all of it, or nothing.
use Rattle.std.specs.Prelude.{◌≡◌, ◌≢◌, ℕ, ◌+◌, ◌-◌, ◌^◌, ◌≤◌, ◌⊎◌, List, [], ◌∷◌, ◌++◌}
use Rattle.std.specs.Prelude.{Contains, length, map, fold}
use Rattle.fed_config.specs.Configuration.{config_id_of}
use Rattle.receipt_core.specs.declared.distrust.Distrust.{Distrust}
use Rattle.receipt_core.specs.Receipt.{Receipt, receipt_cmp, with_distrust, with_receipt}
use Rattle.receipt_core.specs.Rising.{with_items}
use Rattle.receipt_core.specs.Acceptance.{Meaning}
use Rattle.closure_core.specs.Refusals.{offers_count, Room, IsRoomier, RefusesDistrust}
use Rattle.closure_core.specs.Refusals.{RefusesReceipt}
use Rattle.closure_core.specs.Changes.{HeldAndRoom as ClosureState}
use Rattle.closure_core.specs.declared.error.TakeError.{TakeError}
use Rattle.closure_core.specs.declared.error.TakeError.TheVariants.{NoMemory as NoTakeMemory}
use Rattle.replica_core.specs.State.{State, joined, meaning_of_state}
use Rattle.replica_core.specs.Session.{GiveMessage, state_of}
use Rattle.replica_core.specs.declared.entry.Entry.{Entry}
use Rattle.replica_core.specs.declared.entry.Entry.TheVariants.{Record, Receipt as AReceipt}
use Rattle.replica_core.specs.declared.error.SyncError.{SyncError}
use Rattle.replica_core.specs.declared.error.SyncError.TheVariants.{ConfigDiffers, Refused}
use Rattle.replica_core.specs.declared.error.SyncError.TheVariants.{NoMemory}

-- ---- one receipt or one record

-- the meaning in which it is held too
abbrev pub with_entry : Entry → Meaning → Meaning
with_entry (Record x) m = record m { records = with_distrust x m.records }
with_entry (AReceipt r) m = record m { held = with_receipt r m.held }

abbrev pub no_room : Room
no_room = record { receipts = 0; offers = 0 }

-- Why it is not taken, by a closure that has no memory yet.
abbrev pub RefusesEntry : Meaning → Entry → TakeError → Type 0
RefusesEntry m (Record x) why = RefusesDistrust m x why
RefusesEntry m (AReceipt r) why = RefusesReceipt m no_room r why

-- ---- an answer

abbrev pub of_records : List Distrust → List Entry
of_records records = map Record records

abbrev pub of_receipts : List Receipt → List Entry
of_receipts receipts = map AReceipt receipts

-- what the lines after the first one say: the records, and then the receipts
abbrev pub entries_of : State → List Entry
entries_of content = of_records content.records ++ of_receipts content.held

-- the meaning in which these are held too
abbrev pub with_entries : List Entry → Meaning → Meaning
with_entries entries m = fold (λ before entry. with_entry entry before) m entries

-- It would be taken, unless memory ran out.
abbrev pub IsWelcome : Meaning → Entry → Type 0
IsWelcome m entry = (why : TakeError) → why ≢ NoTakeMemory → RefusesEntry m entry why → ⊥

-- Each is welcome if all before it are held.
abbrev pub AreWelcome : Meaning → List Entry → Type 0
AreWelcome m [] = Unit {0}
AreWelcome m (entry ∷ entries) = IsWelcome m entry × AreWelcome (with_entry entry m) entries

-- The line with this number is the first one that is not welcome: its entry has this cause if all
-- before it are held. The first line of an answer is line 1, and has no entry.
pub record IsFirstRefused (m : Meaning) (entries : List Entry) (number : ℕ)
    (why : TakeError) : Type 0 where
  pub before : List Entry
  pub entry : Entry
  pub after : List Entry
  pub parts : entries ≡ before ++ entry ∷ after
  pub place : number ≡ length before + 2
  pub welcome : AreWelcome m before
  pub cause : RefusesEntry (with_entries before m) entry why
  pub named : why ≢ NoTakeMemory

-- It is of a configuration with the same digest.
abbrev pub IsGiveOfConfig : Meaning → GiveMessage → Type 0
IsGiveOfConfig m give = give.config ≡ config_id_of m.config

-- All that it says is held, and this many receipts are that were not.
pub record HasAbsorbed (old : Meaning) (give : GiveMessage) (new : Meaning)
    (count : ℕ) : Type 0 where
  pub of_config : IsGiveOfConfig old give
  pub welcome : AreWelcome old (entries_of give.content)
  pub meaning : new ≡ meaning_of_state old.config (joined (state_of old) give.content)
  pub more : length new.held ≡ length old.held + count

-- the room that these receipts take if not all are held: that of those that are not, each counted
-- once, and of their offers
abbrev pub room_for : Meaning → List Receipt → Room
room_for m receipts = record {
  receipts = length (with_items receipt_cmp receipts m.held) - length m.held;
  offers = offers_count (with_items receipt_cmp receipts m.held) - offers_count m.held;
}

-- one of the receipts is not held
abbrev pub BringsNew : Meaning → List Receipt → Type 0
BringsNew m receipts = (r : Receipt) × Contains receipts r × (Contains m.held r → ⊥)

-- One of the receipts is not held, and there was not room already for all that are not.
pub record IsBeyondRoom (old : ClosureState) (receipts : List Receipt) : Type 0 where
  pub some : BringsNew old.meaning receipts
  pub beyond : IsRoomier (room_for old.meaning receipts) old.room → ⊥

-- All of it is welcome, and something of it wants room that there was not.
pub record WantsRoom (old : ClosureState) (give : GiveMessage) : Type 0 where
  pub of_config : IsGiveOfConfig old.meaning give
  pub welcome : AreWelcome old.meaning (entries_of give.content)
  pub beyond : IsBeyondRoom old give.content.held

-- It has more lines than memory holds: their numbers do not fit 64 bits.
pub record IsTooLong (old : ClosureState) (give : GiveMessage) : Type 0 where
  pub of_config : IsGiveOfConfig old.meaning give
  pub long : 2 ^ 64 ≤ length (entries_of give.content) + 2

pub record RefusesOne (m : Meaning) (give : GiveMessage) (number : ℕ)
    (why : TakeError) : Type 0 where
  pub of_config : IsGiveOfConfig m give
  pub first : IsFirstRefused m (entries_of give.content) number why

abbrev pub RefusesAbsorbing : ClosureState → GiveMessage → SyncError → Type 0
RefusesAbsorbing old give ConfigDiffers = IsGiveOfConfig old.meaning give → ⊥
RefusesAbsorbing old give (Refused n why) = RefusesOne old.meaning give n why
RefusesAbsorbing old give NoMemory = WantsRoom old give ⊎ IsTooLong old give
RefusesAbsorbing old give _ = ⊥

-- Nothing of it is held that was not.
pub record HasRefusedAbsorbing (old : ClosureState) (give : GiveMessage) (new : Meaning)
    (why : SyncError) : Type 0 where
  pub cause : RefusesAbsorbing old give why
  pub same : new ≡ old.meaning
