-- Single lines, without the stream that they are in.
use Rattle.std.specs.Prelude.{◌≡◌, ◌≢◌, ℕ, ◌+◌, ◌≤◌, ◌⊎◌, List, length}
use Rattle.fed_config.specs.Configuration.{Configuration, config_id_of}
use Rattle.receipt_core.specs.Acceptance.{Meaning}
use Rattle.receipt_core.specs.Limits.{receipt_line_limit}
use Rattle.closure_core.specs.declared.error.TakeError.{TakeError}
use Rattle.closure_core.specs.declared.error.TakeError.TheVariants.{NoMemory as NoTakeMemory}
use Rattle.replica_core.specs.Absorbing.{RefusesEntry, with_entry}
use Rattle.replica_core.specs.Session.{HaveMessage}
use Rattle.replica_core.specs.declared.entry.Entry.{Entry}
use Rattle.replica_core.specs.declared.error.SyncError.{SyncError}
use Rattle.replica_core.specs.declared.error.SyncError.TheVariants.{BadHeader, ConfigDiffers}
use Rattle.replica_core.specs.declared.error.SyncError.TheVariants.{VersionDiffers, NotCanonical}
use Rattle.replica_core.specs.declared.error.SyncError.TheVariants.{Refused, NoMemory}
use Rattle.replica_texts.specs.declared.entry_line.Wanted.TheVariants.{Either}
use Rattle.replica_texts.specs.declared.format.Format.TheVariants.{First, Second}
use Rattle.replica_texts.specs.Entries.{IsEntry, IsNoLineOf, IsWanted}
use Rattle.replica_texts.specs.Messages.{as_any_have}
use Rattle.replica_texts.specs.FirstLines.{IsAnyHaveLine}
use Rattle.replica_texts.specs.Snapshots.{IsNoHeader, IsOfOther, IsOfOtherFormat, header_line}

-- ---- a receipt or a record

-- it is a receipt or a record of its form
abbrev pub IsWellFormed : Entry → Type 0
IsWellFormed entry = IsWanted Either entry

-- It is the line of a receipt or a record, which is held now; this many receipts are that were not.
pub record TakesSoleLine (old : Meaning) (text : List ℕ) (new : Meaning) (count : ℕ) : Type 0 where
  pub entry : Entry
  pub is : IsEntry Either text entry
  pub meaning : new ≡ with_entry entry old
  pub more : length new.held ≡ length old.held + count

-- It is one, and what it says is refused.
pub record IsRefusedEntry (m : Meaning) (text : List ℕ) (why : TakeError) : Type 0 where
  pub entry : Entry
  pub is : IsEntry Either text entry
  pub cause : RefusesEntry m entry why

-- what is wrong with the line with this number; memory is wanted within the bound of receipts'
-- lines
abbrev pub RefusesSoleLine : Meaning → ℕ → List ℕ → SyncError → Type 0
RefusesSoleLine m number text (NotCanonical n) = (n ≡ number) × IsNoLineOf Either text
RefusesSoleLine m number text (Refused n why) = (n ≡ number) × (why ≢ NoTakeMemory)
    × IsRefusedEntry m text why
RefusesSoleLine m number text NoMemory = (length text ≤ receipt_line_limit)
    ⊎ IsRefusedEntry m text NoTakeMemory
RefusesSoleLine m number text _ = ⊥

-- a line, and the number by which errors name it
pub record SoleLine : Type 0 where
  pub number : ℕ
  pub text : List ℕ

-- Nothing has changed.
pub record HasRefusedSoleLine (old : Meaning) (line : SoleLine) (new : Meaning)
    (e : SyncError) : Type 0 where
  pub cause : RefusesSoleLine old line.number line.text e
  pub same : new ≡ old

-- ---- a first line

-- the first line of a snapshot, in the format that is written
abbrev pub written_header : Configuration → List ℕ
written_header config = header_line Second config

-- what is wrong with the line if the first one of the format that is written is wanted
abbrev pub RefusesSoleHeader : Configuration → List ℕ → SyncError → Type 0
RefusesSoleHeader config text BadHeader = IsNoHeader text
RefusesSoleHeader config text ConfigDiffers = IsOfOther config text
RefusesSoleHeader config text VersionDiffers = (text ≡ header_line First config)
    ⊎ IsOfOtherFormat config text
RefusesSoleHeader config text _ = ⊥

-- ---- a have

-- It is the line of this have, which is of the configuration.
pub record IsHaveLine (config : Configuration) (text : List ℕ) (q : HaveMessage) : Type 0 where
  pub line : IsAnyHaveLine text (as_any_have q)
  pub own : q.config ≡ config_id_of config
