-- A session in which a replica asks about each bucket and takes what is answered.
use Rattle.std.specs.Prelude.{◌≡◌, ℕ, ◌+◌, ◌<◌, ◌⊎◌, List, [], ◌∷◌, ◌++◌, length, flat_map, fold}
use Rattle.std.specs.Prelude.{Option, Some, Result, Ok, Err, Bool, false, Contains}
use Rattle.std.specs.Io.KnownBytes.{Appends, Consumes}
use Rattle.fed_config.specs.Configuration.{Configuration, config_id_of}
use Rattle.receipt_core.specs.Receipt.{Receipt, receipt_id_of}
use Rattle.receipt_core.specs.Acceptance.{Meaning}
use Rattle.replica_core.specs.State.{State, no_state, joined, meaning_of_state}
use Rattle.replica_core.specs.Session.{HaveMessage, GiveMessage, have_of, state_of}
use Rattle.replica_texts.specs.Entries.{RefusesEntryLine, placed_line}
use Rattle.replica_texts.specs.declared.entry_line.Wanted.{Wanted}
use Rattle.replica_core.specs.declared.error.SyncError.{SyncError}
use Rattle.replica_texts.specs.Messages.{have_text, give_text}
use Rattle.replica_texts.specs.Snapshots.{is_io}
use Rattle.replica_texts.specs.Gives.{IsGive, GiveBegins, RefusesHead, RefusesNextEntry}
use Rattle.replica_texts.specs.Gives.{next_entry_number}
use Rattle.replica_sync.specs.SessionRun.{SessionRun, IsWritten}
use Rattle.replica_core.specs.declared.error.PullFault.{PullFault}

-- It is an answer of this configuration about the bucket.
pub record IsGiveAbout (config : Configuration) (bucket : ℕ) (give : GiveMessage) : Type 0 where
  pub own : give.config ≡ config_id_of config
  pub about : give.bucket ≡ bucket
  pub form : IsGive give

-- the answers about this bucket and those after it, one each
abbrev pub AreGives : Configuration → ℕ → List GiveMessage → Type 0
AreGives config bucket [] = Unit {0}
AreGives config bucket (give ∷ gives) = IsGiveAbout config bucket give
    × AreGives config (bucket + 1) gives

-- The stream begins with answers about the buckets from 0 on, and `left` is what follows them.
pub record Session (config : Configuration) (stream : Option (List ℕ)) (gives : List GiveMessage)
    (left : Option (List ℕ)) : Type 0 where
  pub each : AreGives config 0 gives
  pub text : Consumes stream left (flat_map give_text gives)

-- what is held after them
abbrev pub after_gives : State → List GiveMessage → State
after_gives state gives = fold (λ held give. joined held give.content) state gives

-- the have about the bucket of a replica that holds this
abbrev pub have_in : Configuration → State → ℕ → HaveMessage
have_in config state bucket = have_of (meaning_of_state config state) bucket

-- The haves to which these are the answers: each has the ids that were held when it was asked.
abbrev pub haves_of : Configuration → ℕ → State → List GiveMessage → List HaveMessage
haves_of config bucket state [] = []
haves_of config bucket state (give ∷ gives) = have_in config state bucket
    ∷ haves_of config (bucket + 1) (joined state give.content) gives

-- how many lines they have
abbrev pub line_count : List GiveMessage → ℕ
line_count [] = 0
line_count (give ∷ gives) = 1 + length give.content.records + length give.content.held
    + line_count gives

-- what is wrong with a line, if the replica held this before the answer and has taken this much of
-- it
abbrev pub refused_line : Configuration → State → ℕ → State → Wanted → List ℕ → List ℕ → SyncError
    → Type 0
refused_line config state first content wanted last text e = RefusesEntryLine
    (meaning_of_state config (joined state content))
    (placed_line wanted last (next_entry_number first content) text) e

-- A good beginning of the answer, and after it this error.
pub record FailsWithin (config : Configuration) (state : State) (bucket first : ℕ) (content : State)
    (left : Option (List ℕ)) (e : SyncError) : Type 0 where
  pub count : ℕ
  pub distrusts : ℕ
  pub further : Option (List ℕ)
  pub after : Option (List ℕ)
  pub begins : GiveBegins (Some (record { config = config; bucket = bucket })) left count
      distrusts content further
  pub cause : RefusesNextEntry (refused_line config state first content) count distrusts content
      further after e

-- Its first line has an error.
pub record FailsFirst (config : Configuration) (bucket : ℕ) (content : State)
    (left : Option (List ℕ)) (e : SyncError) : Type 0 where
  pub after : Option (List ℕ)
  pub cause : RefusesHead (Some (record { config = config; bucket = bucket })) left after e
  pub none : content ≡ no_state

-- why the answer about the bucket is not read to its end, if its first line has the number and this
-- much of it was taken
abbrev pub RefusesGiveAbout : Configuration → State → ℕ → ℕ → State → Option (List ℕ) → SyncError
    → Type 0
RefusesGiveAbout config state bucket first content left e = FailsFirst config bucket content left e
    ⊎ FailsWithin config state bucket first content left e

-- All buckets are asked about, and what the answers have is held now.
pub record PullsAll (run : SessionRun) (old new : Meaning) : Type 0 where
  pub gives : List GiveMessage
  pub left : Option (List ℕ)
  pub session : Session old.config run.source gives left
  pub all : length gives ≡ 256
  pub meaning : new ≡ meaning_of_state old.config (after_gives (state_of old) gives)
  pub asked : Appends run.before run.after
      (flat_map have_text (haves_of old.config 0 (state_of old) gives))

-- What the lines before the error have is held now.
pub record PullsUpTo (run : SessionRun) (old new : Meaning) (e : SyncError) : Type 0 where
  pub gives : List GiveMessage
  pub left : Option (List ℕ)
  pub session : Session old.config run.source gives left
  pub few : length gives < 256
  pub content : State
  pub cause : RefusesGiveAbout old.config (after_gives (state_of old) gives) (length gives)
      (line_count gives + 1) content left e
  pub meaning : new ≡ meaning_of_state old.config
      (joined (after_gives (state_of old) gives) content)
  pub asked : IsWritten e run.before run.after
      (flat_map have_text
      (haves_of old.config 0 (state_of old) gives
      ++ have_in old.config (after_gives (state_of old) gives) (length gives) ∷ []))

-- no two receipts that are held have one id
abbrev pub HasDistinctIds : State → Type 0
HasDistinctIds state = (r s : Receipt) → Contains state.held r → Contains state.held s
    → receipt_id_of r ≡ receipt_id_of s → r ≡ s

-- this many receipts are held that were not
abbrev pub HasGained : Meaning → Meaning → ℕ → Type 0
HasGained old new count = length new.held ≡ length old.held + count

-- what a call does that asks and takes
abbrev pub Pulls : SessionRun → Meaning → Meaning → Result ℕ PullFault → Type 0
Pulls run old new (Ok count) = PullsAll run old new × HasGained old new count
Pulls run old new (Err fault) = PullsUpTo run old new fault.why × HasGained old new fault.taken

-- a device failed
abbrev pub is_pull_io : Result ℕ PullFault → Bool
is_pull_io (Ok count) = false
is_pull_io (Err fault) = is_io {T = ℕ} (Err fault.why)
