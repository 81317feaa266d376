-- What one replica asks another, and what that answers.
use Rattle.std.specs.Prelude.{◌≡◌, ℕ, List, length}
use Rattle.std.specs.List.Sorted.{IsStrictlySortedBy}
use Rattle.fed_config.specs.Configuration.{config_id_of}
use Rattle.receipt_core.specs.Acceptance.{Meaning}
use Rattle.replica_core.specs.State.{State, id_cmp, ids_named, receipts_lacking}

-- the receipts and the records that a closure holds
abbrev pub state_of : Meaning → State
state_of m = record { held = m.held; records = m.records }

-- A have names the ids that the asker holds of a bucket; `config` is the digest of its
-- configuration.
pub record HaveMessage : Type 0 where
  pub bucket : ℕ
  pub config : List ℕ
  pub ids : List (List ℕ)

-- An answer gives receipts of the bucket, and records.
pub record GiveMessage : Type 0 where
  pub bucket : ℕ
  pub config : List ℕ
  pub content : State

-- the ids rise, so each comes once
abbrev pub IsHave : HaveMessage → Type 0
IsHave q = IsStrictlySortedBy id_cmp q.ids

-- what a closure asks about a bucket
abbrev pub have_of : Meaning → ℕ → HaveMessage
have_of m bucket = record {
  bucket = bucket;
  config = config_id_of m.config;
  ids = ids_named (state_of m) bucket;
}

-- what a closure answers: the receipts of the bucket that the have does not name, and all
-- records
abbrev pub give_of : Meaning → HaveMessage → GiveMessage
give_of m q = record {
  bucket = q.bucket;
  config = config_id_of m.config;
  content = record { held = receipts_lacking (state_of m) q.bucket q.ids; records = m.records };
}

-- how many receipts and records there are
pub record HasCounts (state : State) (count distrusts : ℕ) : Type 0 where
  pub receipts : count ≡ length state.held
  pub records : distrusts ≡ length state.records
