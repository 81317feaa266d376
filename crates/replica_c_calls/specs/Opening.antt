-- What a replica holds that was opened.
use Rattle.std.specs.Prelude.{◌≡◌, ℕ, ◌<◌, ◌⊎◌, List, [], length, Some}
use Rattle.fed_config.specs.Configuration.{Configuration}
use Rattle.fed_config.specs.Reading.{IsConfig, RefusesConfigBytes}
use Rattle.receipt_core.specs.Acceptance.{Meaning}
use Rattle.closure_core.specs.Changes.{empty_of}
use Rattle.replica_texts.specs.Snapshots.{IsSnapshot, RefusesSnapshot}
use Rattle.replica_core.specs.declared.error.SyncError.{SyncError}
use Rattle.replica_core.specs.declared.error.SyncError.TheVariants.{Io}
use Rattle.replica_c_calls.specs.declared.call_error.CallError.{CallError}
use Rattle.replica_c_calls.specs.declared.call_error.CallError.TheVariants.{Config, Sync, NoMemory}

-- Nothing if there are no bytes of a snapshot; otherwise what the snapshot says.
abbrev pub BeginsWith : Configuration → List ℕ → Meaning → Type 0
BeginsWith c snapshot m = ((snapshot ≡ []) × (m ≡ empty_of c))
    ⊎ ((0 < length snapshot) × IsSnapshot c (Some snapshot) m)

-- The bytes are a configuration, under which that is held.
pub record OpensBytes (config snapshot : List ℕ) (m : Meaning) : Type 0 where
  pub configuration : Configuration
  pub is : IsConfig config configuration
  pub begins : BeginsWith configuration snapshot m

-- The bytes are a configuration, and those of the snapshot are not a snapshot of it, for this
-- cause.
pub record RefusesSnapshotBytes (config snapshot : List ℕ) (e : SyncError) : Type 0 where
  pub configuration : Configuration
  pub is : IsConfig config configuration
  pub some : 0 < length snapshot
  pub cause : RefusesSnapshot configuration (Some snapshot) e

-- the bytes are a configuration
abbrev pub IsConfigBytes : List ℕ → Type 0
IsConfigBytes config = (c : Configuration) × IsConfig config c

-- Bytes in memory never fail to be read.
abbrev pub RefusesOpening : List ℕ → List ℕ → CallError → Type 0
RefusesOpening config snapshot (Config e) = RefusesConfigBytes config e
RefusesOpening config snapshot (Sync Io) = ⊥
RefusesOpening config snapshot (Sync e) = RefusesSnapshotBytes config snapshot e
RefusesOpening config snapshot NoMemory = IsConfigBytes config
RefusesOpening config snapshot _ = ⊥

-- The bytes are not a snapshot of the configuration, for this cause, or memory ran out. They never
-- fail to be read.
abbrev pub RefusesSnapshotText : Configuration → List ℕ → CallError → Type 0
RefusesSnapshotText c snapshot (Sync Io) = ⊥
RefusesSnapshotText c snapshot (Sync e) = RefusesSnapshot c (Some snapshot) e
RefusesSnapshotText c snapshot NoMemory = Unit {0}
RefusesSnapshotText c snapshot _ = ⊥
