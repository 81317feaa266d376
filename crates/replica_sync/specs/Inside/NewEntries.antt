-- What a line says that is held, or is not taken.
use Rattle.std.specs.Prelude.{◌≡◌, ◌≢◌, ℕ, Contains}
use Rattle.receipt_core.specs.Acceptance.{Meaning}
use Rattle.closure_core.specs.declared.error.TakeError.{TakeError}
use Rattle.closure_core.specs.declared.error.TakeError.TheVariants.{NoMemory as NoTakeMemory}
use Rattle.replica_core.specs.Absorbing.{RefusesEntry}
use Rattle.replica_core.specs.declared.entry.Entry.{Entry}
use Rattle.replica_core.specs.declared.entry.Entry.TheVariants.{Record, Receipt as AReceipt}
use Rattle.replica_core.specs.declared.error.SyncError.{SyncError}
use Rattle.replica_core.specs.declared.error.SyncError.TheVariants.{Refused, NoMemory}

abbrev pub IsHeldEntry : Meaning → Entry → Type 0
IsHeldEntry m (Record x) = Contains m.records x
IsHeldEntry m (AReceipt r) = Contains m.held r

-- why what the line with this number says is not taken
abbrev pub RefusesUnheld : Meaning → ℕ → Entry → SyncError → Type 0
RefusesUnheld m number entry (Refused n why) = (n ≡ number) × (why ≢ NoTakeMemory)
    × RefusesEntry m entry why
RefusesUnheld m number entry NoMemory = Unit {0}
RefusesUnheld m number entry _ = ⊥

-- how a refusal names the line with this number
abbrev pub IsNamed : ℕ → TakeError → SyncError → Type 0
IsNamed number why (Refused n cause) = (n ≡ number) × (cause ≡ why) × (why ≢ NoTakeMemory)
IsNamed number why NoMemory = why ≡ NoTakeMemory
IsNamed number why _ = ⊥

-- Nothing has changed.
pub record HasRefusedNew (old : Meaning) (number : ℕ) (entry : Entry) (new : Meaning)
    (e : SyncError) : Type 0 where
  pub cause : RefusesUnheld old number entry e
  pub same : new ≡ old
