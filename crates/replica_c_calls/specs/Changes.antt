-- How a replica changes by bytes: what is taken, and what a refusal leaves.
use Rattle.std.specs.Prelude.{◌≡◌, ℕ, ◌<◌, ◌≤◌, ◌⊎◌, ◌++◌, List, length, Option, Some}
use Rattle.spiffe_name.specs.TrustDomain.{IsDomainText}
use Rattle.spiffe_name.specs.SpiffeId.{IsId}
use Rattle.receipt_core.specs.declared.distrust.Distrust.{Distrust}
use Rattle.receipt_core.specs.Receipt.{Receipt}
use Rattle.receipt_core.specs.Acceptance.{Meaning}
use Rattle.receipt_core.specs.Line.{IsLine, RefusesReceiptLine}
use Rattle.closure_core.specs.Changes.{HeldAndRoom, IsUnchanged, TakesOk, Distrusts}
use Rattle.closure_core.specs.Changes.{HasMergedInRoom, HasRefusedMerge, HasRefusedDistrust}
use Rattle.closure_core.specs.Refusals.{RefusesReceipt}
use Rattle.closure_core.specs.declared.error.TakeError.{TakeError}
use Rattle.closure_core.specs.declared.outcome.Taken.{Taken}
use Rattle.closure_core.specs.declared.outcome.Distrusted.{Distrusted}
use Rattle.replica_texts.specs.Snapshots.{IsSnapshot, RefusesSnapshot}
use Rattle.replica_texts.specs.Gives.{IsGive, RefusesGive, next_entry_number}
use Rattle.replica_texts.specs.Messages.{give_text, receipt_text}
use Rattle.replica_core.specs.Session.{GiveMessage}
use Rattle.replica_core.specs.Absorbing.{HasAbsorbed, RefusesAbsorbing}
use Rattle.replica_core.specs.declared.error.SyncError.{SyncError}
use Rattle.replica_core.specs.declared.error.SyncError.TheVariants.{Io, NotCanonical}
use Rattle.bundle_view.specs.Observe.{FetchedBundle, HasObserved, HasNotObserved, IsObservation}
use Rattle.bundle_view.specs.declared.observation.Verdict.{Verdict}
use Rattle.replica_c_calls.specs.CallErrors.{IsKeyDigits, IsNoKey, RefusesDomainBytes}
use Rattle.replica_c_calls.specs.CallErrors.{NamesId, RefusesIdBytes}
use Rattle.replica_c_calls.specs.declared.bundle_observing.FetchedBytes.{FetchedBytes}
use Rattle.replica_c_calls.specs.declared.bundle_observing.ObservedBytes.{ObservedBytes}
use Rattle.replica_c_calls.specs.declared.bundle_observing.ObservedBytes.TheVariants.{Held}
use Rattle.replica_c_calls.specs.declared.bundle_observing.ObservedBytes.TheVariants.{NeedsRoom}
use Rattle.replica_c_calls.specs.declared.call_error.CallError.{CallError}
use Rattle.replica_c_calls.specs.declared.call_error.CallError.TheVariants.{Usage, Name, Line, Take}
use Rattle.replica_c_calls.specs.declared.call_error.CallError.TheVariants.{Observe, Sync, NoMemory}

-- ---- a receipt's line

-- The line is that of a receipt, which is taken.
pub record TakesLineBytes (old : HeldAndRoom) (text : List ℕ) (new : HeldAndRoom)
    (taken : Taken) : Type 0 where
  pub receipt : Receipt
  pub is : IsLine text receipt
  pub takes : TakesOk old receipt new taken

-- It is one that is refused, for this cause.
pub record RefusesTakenLine (old : HeldAndRoom) (text : List ℕ) (why : TakeError) : Type 0 where
  pub receipt : Receipt
  pub is : IsLine text receipt
  pub cause : RefusesReceipt old.meaning old.room receipt why

abbrev pub RefusesLineBytes : HeldAndRoom → List ℕ → CallError → Type 0
RefusesLineBytes old text (Line e) = RefusesReceiptLine text e
RefusesLineBytes old text (Take why) = RefusesTakenLine old text why
RefusesLineBytes old text _ = ⊥

-- and what is held is unchanged
pub record HasRefusedLineBytes (old : HeldAndRoom) (text : List ℕ) (new : HeldAndRoom)
    (e : CallError) : Type 0 where
  pub cause : RefusesLineBytes old text e
  pub unchanged : IsUnchanged old new

-- ---- a key

-- the bytes that are to name a domain, and a key
pub record KeyBytes : Type 0 where
  pub domain : List ℕ
  pub key : List ℕ

abbrev pub key_bytes : (domain key : List ℕ) → KeyBytes
key_bytes domain key = record { domain = domain; key = key }

-- The bytes name a domain and a key, and that record is held.
pub record DistrustsBytes (old : Meaning) (bytes : KeyBytes) (new : Meaning)
    (outcome : Distrusted) : Type 0 where
  pub entry : Distrust
  pub domain_is : entry.domain ≡ bytes.domain
  pub form : IsDomainText bytes.domain
  pub key_is : IsKeyDigits bytes.key entry.key
  pub holds : Distrusts old entry new outcome

-- They name a record that is refused, for this cause.
pub record RefusesNamedKey (old : Meaning) (bytes : KeyBytes) (new : Meaning)
    (why : TakeError) : Type 0 where
  pub entry : Distrust
  pub domain_is : entry.domain ≡ bytes.domain
  pub key_is : IsKeyDigits bytes.key entry.key
  pub refused : HasRefusedDistrust old entry new why

-- They are not a name, or they name a domain and no key; or that record is refused.
abbrev pub RefusesKeyBytes : Meaning → KeyBytes → Meaning → CallError → Type 0
RefusesKeyBytes old bytes new Usage = RefusesDomainBytes bytes.domain Usage
    ⊎ (IsDomainText bytes.domain × IsNoKey bytes.key)
RefusesKeyBytes old bytes new (Name e) = RefusesDomainBytes bytes.domain (Name e)
RefusesKeyBytes old bytes new (Take why) = RefusesNamedKey old bytes new why
RefusesKeyBytes old bytes new _ = ⊥

pub record HasRefusedKeyBytes (old : Meaning) (bytes : KeyBytes) (new : Meaning)
    (e : CallError) : Type 0 where
  pub cause : RefusesKeyBytes old bytes new e
  pub same : new ≡ old

-- ---- a snapshot

-- The bytes are a snapshot, whose receipts and records are held too; n receipts were not.
pub record MergesBytes (old : HeldAndRoom) (snapshot : List ℕ) (new : HeldAndRoom)
    (n : ℕ) : Type 0 where
  pub other : Meaning
  pub is : IsSnapshot old.meaning.config (Some snapshot) other
  pub merged : HasMergedInRoom old other new n

-- They are one that is refused, for this cause.
pub record RefusesMergedBytes (old : HeldAndRoom) (snapshot : List ℕ) (new : HeldAndRoom)
    (why : TakeError) : Type 0 where
  pub other : Meaning
  pub is : IsSnapshot old.meaning.config (Some snapshot) other
  pub refused : HasRefusedMerge old other new why

-- Bytes in memory never fail to be read.
abbrev pub RefusesSnapshotOf : HeldAndRoom → List ℕ → HeldAndRoom → CallError → Type 0
RefusesSnapshotOf old snapshot new (Sync Io) = ⊥
RefusesSnapshotOf old snapshot new (Sync e) = RefusesSnapshot old.meaning.config (Some snapshot) e
RefusesSnapshotOf old snapshot new (Take why) = RefusesMergedBytes old snapshot new why
RefusesSnapshotOf old snapshot new NoMemory = Unit {0}
RefusesSnapshotOf old snapshot new _ = ⊥

pub record HasRefusedSnapshotBytes (old : HeldAndRoom) (snapshot : List ℕ) (new : HeldAndRoom)
    (e : CallError) : Type 0 where
  pub cause : RefusesSnapshotOf old snapshot new e
  pub unchanged : IsUnchanged old new

-- ---- an answer

-- The bytes are this answer and nothing more.
pub record ReadsGiveBytes (bytes : List ℕ) (give : GiveMessage) : Type 0 where
  pub is : IsGive give
  pub text : bytes ≡ give_text give

-- They do not begin with an answer, for this cause.
pub record HasBadGive (bytes : List ℕ) (e : SyncError) : Type 0 where
  pub left : Option (List ℕ)
  pub cause : RefusesGive (Some bytes) left e

-- They begin with one, and more follows it: the error is that of the line after the answer's last.
pub record HasMoreThanGive (bytes : List ℕ) (e : SyncError) : Type 0 where
  pub give : GiveMessage
  pub is : IsGive give
  pub rest : List ℕ
  pub text : bytes ≡ give_text give ++ rest
  pub more : 0 < length rest
  pub fault : e ≡ NotCanonical (next_entry_number 1 give.content)

-- Bytes in memory never fail to be read.
abbrev pub RefusesGiveBytes : List ℕ → CallError → Type 0
RefusesGiveBytes bytes (Sync Io) = ⊥
RefusesGiveBytes bytes (Sync e) = HasBadGive bytes e ⊎ HasMoreThanGive bytes e
RefusesGiveBytes bytes NoMemory = Unit {0}
RefusesGiveBytes bytes _ = ⊥

-- They are one that is refused, for this cause.
pub record RefusesAbsorbed (old : HeldAndRoom) (bytes : List ℕ) (e : SyncError) : Type 0 where
  pub give : GiveMessage
  pub reads : ReadsGiveBytes bytes give
  pub cause : RefusesAbsorbing old give e

abbrev pub RefusesAnswerBytes : HeldAndRoom → List ℕ → CallError → Type 0
RefusesAnswerBytes old bytes (Sync Io) = ⊥
RefusesAnswerBytes old bytes (Sync e) = RefusesGiveBytes bytes (Sync e)
    ⊎ RefusesAbsorbed old bytes e
RefusesAnswerBytes old bytes e = RefusesGiveBytes bytes e

-- The bytes are an answer, and all that it has is held; n receipts were not.
pub record AbsorbsBytes (old : Meaning) (bytes : List ℕ) (new : Meaning) (n : ℕ) : Type 0 where
  pub give : GiveMessage
  pub reads : ReadsGiveBytes bytes give
  pub absorbed : HasAbsorbed old give new n

pub record HasRefusedGiveBytes (old : HeldAndRoom) (bytes : List ℕ) (new : Meaning)
    (e : CallError) : Type 0 where
  pub cause : RefusesAnswerBytes old bytes e
  pub same : new ≡ old.meaning

-- ---- a bundle that was fetched

-- the bytes are the ID of the endpoint and the digits of the key
pub record NamesVerdict (bytes : FetchedBytes) (verdict : Verdict) : Type 0 where
  pub endpoint : verdict.endpoint.text ≡ bytes.endpoint.now
  pub id : IsId verdict.endpoint
  pub key : IsKeyDigits bytes.key.now verdict.key

-- they are those, the domain's name and the document
pub record NamesFetched (bytes : FetchedBytes) (fetched : FetchedBundle) : Type 0 where
  pub domain : fetched.domain ≡ bytes.domain.now
  pub form : IsDomainText fetched.domain
  pub verdict : NamesVerdict bytes fetched.verdict
  pub document : fetched.bytes ≡ bytes.document.now

-- they are a bundle of which this holds
pub record HoldsOfFetched (bytes : FetchedBytes) (P : FetchedBundle → Type 0) : Type 0 where
  pub fetched : FetchedBundle
  pub names : NamesFetched bytes fetched
  pub is : P fetched

-- Its receipt is held, and this is the receipt's line.
pub record HasHeldLine (old : HeldAndRoom) (fetched : FetchedBundle) (new : HeldAndRoom)
    (text : List ℕ) : Type 0 where
  pub receipt : Receipt
  pub observed : HasObserved old.meaning fetched new.meaning receipt
  pub line : text ≡ receipt_text receipt

-- Its receipt's line has more bytes than there is room for; nothing was taken.
pub record LacksRoom (old : HeldAndRoom) (fetched : FetchedBundle) (room : ℕ) (new : HeldAndRoom)
    (needed : ℕ) : Type 0 where
  pub receipt : Receipt
  pub observation : IsObservation old.meaning fetched receipt
  pub size : needed ≡ length (receipt_text receipt)
  pub more : room < needed
  pub same : new ≡ old

abbrev pub ObservesNamed : HeldAndRoom → FetchedBundle → ℕ → HeldAndRoom → ObservedBytes → Type 0
ObservesNamed old fetched room new (Held text) = HasHeldLine old fetched new text.items
    × (length text.items ≤ room)
ObservesNamed old fetched room new (NeedsRoom needed) = LacksRoom old fetched room new needed

-- a bundle's bytes, and how many bytes its receipt's line may have
pub record FetchedFor : Type 0 where
  pub bytes : FetchedBytes
  pub room : ℕ

abbrev pub fetched_for : FetchedBytes → ℕ → FetchedFor
fetched_for bytes room = record { bytes = bytes; room = room }

abbrev pub ObservesFetched : HeldAndRoom → FetchedFor → HeldAndRoom → ObservedBytes → Type 0
ObservesFetched old came new observed =
    HoldsOfFetched came.bytes (λ fetched. ObservesNamed old fetched came.room new observed)

-- Its receipt can be taken, and memory ran out for the line; nothing was taken.
pub record LosesLine (old : HeldAndRoom) (fetched : FetchedBundle)
    (new : HeldAndRoom) : Type 0 where
  pub receipt : Receipt
  pub observation : IsObservation old.meaning fetched receipt
  pub same : new ≡ old

-- Nothing is observed, for this cause, or memory ran out for the line.
abbrev pub RefusesNamed : HeldAndRoom → FetchedBundle → HeldAndRoom → CallError → Type 0
RefusesNamed old fetched new (Observe why) = HasNotObserved old fetched new why
RefusesNamed old fetched new NoMemory = LosesLine old fetched new
RefusesNamed old fetched new _ = ⊥

-- Why the bytes are not a verdict: the endpoint's are not a SPIFFE ID, or they are one and the
-- key's are not a key.
abbrev pub RefusesVerdictBytes : FetchedBytes → CallError → Type 0
RefusesVerdictBytes bytes Usage = RefusesIdBytes bytes.endpoint.now Usage
    ⊎ (NamesId bytes.endpoint.now × IsNoKey bytes.key.now)
RefusesVerdictBytes bytes e = RefusesIdBytes bytes.endpoint.now e

-- they name no domain, or one and no verdict; nothing was taken
pub record RefusesNames (old : HeldAndRoom) (bytes : FetchedBytes) (new : HeldAndRoom)
    (e : CallError) : Type 0 where
  pub cause : RefusesDomainBytes bytes.domain.now e
      ⊎ (IsDomainText bytes.domain.now × RefusesVerdictBytes bytes e)
  pub same : new ≡ old

abbrev pub HasRefusedFetched : HeldAndRoom → FetchedBytes → HeldAndRoom → CallError → Type 0
HasRefusedFetched old bytes new Usage = RefusesNames old bytes new Usage
HasRefusedFetched old bytes new (Name e) = RefusesNames old bytes new (Name e)
HasRefusedFetched old bytes new e =
    HoldsOfFetched bytes (λ fetched. RefusesNamed old fetched new e)
