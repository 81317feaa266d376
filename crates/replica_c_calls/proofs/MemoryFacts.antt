-- Bytes in memory never fail to be read
use Rattle.std.proofs.Common.{◌≡◌, ◌||◌, ◌==◌, ℕ, zero, suc, ◌<◌, Bool, false, List, length}
use Rattle.std.proofs.Common.{Some, Result, Ok, Err, MatchResult, inl, inr, refl, ap, arith, rules, ◌∙◌}
use Rattle.std.proofs.lemmas.Bool.{both_ways}
use Rattle.fed_config.specs.Configuration.{Configuration}
use Rattle.fed_config.specs.Reading.{IsConfig}
use Rattle.receipt_core.specs.Acceptance.{Meaning}
use Rattle.closure_core.specs.Changes.{HeldAndRoom}
use Rattle.replica_core.specs.declared.error.SyncError.{SyncError}
use Rattle.replica_core.specs.declared.error.SyncError.TheVariants.{Io}
use Rattle.replica_texts.specs.Snapshots.{IsSnapshot, RefusesSnapshot, is_io}
use Rattle.replica_c_calls.specs.Changes.{HasBadGive, HasRefusedSnapshotBytes, RefusesAbsorbed, RefusesAnswerBytes, RefusesGiveBytes, RefusesSnapshotOf}
use Rattle.replica_c_calls.specs.Opening.{OpensBytes, RefusesOpening, RefusesSnapshotText}
use Rattle.replica_c_calls.specs.declared.call_error.CallError.{CallError}
use Rattle.replica_c_calls.specs.declared.call_error.CallError.TheVariants.{NoMemory, Sync}

-- a source that never fails reports no error
pub no_fault : (T : Type 0) (why : SyncError) (new old : Bool) → new ≡ false → old ≡ false → new ≡ (is_io {T = T} (Err why) || old) → why ≡ Io → ⊥
no_fault T why new old sound was fault io =
    both_ways new sound (fault ∙ ap (λ w. is_io {T = T} (Err w) || old) io)

-- ---- a snapshot

pub snapshot_refused : (c : Configuration) (text : List ℕ) (why : SyncError) → (why ≡ Io → ⊥) → RefusesSnapshot c (Some text) why
    → RefusesSnapshotText c text (Sync why)
snapshot_refused c text Io sound refused = absurd (sound refl)
snapshot_refused c text why sound refused = refused

-- when a snapshot is merged
merging_refused : (old new : HeldAndRoom) (text : List ℕ) (e : CallError) → RefusesSnapshotText old.meaning.config text e
    → RefusesSnapshotOf old text new e
merging_refused old new text (Sync Io) refused = absurd refused
merging_refused old new text (Sync why) refused = refused
merging_refused old new text NoMemory refused = refused
merging_refused old new text e refused = absurd refused

-- the same for the call: nothing has changed
pub merge_refused : (held : HeldAndRoom) (text : List ℕ) (e : CallError) → RefusesSnapshotText held.meaning.config text e
    → HasRefusedSnapshotBytes held text held e
merge_refused held text e refused = record { cause = merging_refused held held text e refused; unchanged = search rules }

-- there are bytes of it
pub not_empty : (count : ℕ) (stated : Bool) → stated ≡ (count == 0) → stated ≡ false → 0 < count
not_empty zero stated is not = absurd (both_ways stated not is)
not_empty (suc n) stated is not = omega arith

-- when a replica is opened
opening_refused : (config text : List ℕ) (c : Configuration) (e : CallError) → IsConfig config c → 0 < length text → RefusesSnapshotText c text e
    → RefusesOpening config text e
opening_refused config text c (Sync Io) is some refused = absurd refused
opening_refused config text c (Sync why) is some refused = record { configuration = c; is = is; some = some; cause = refused }
opening_refused config text c NoMemory is some refused = (c, is)
opening_refused config text c e is some refused = absurd refused

-- the same for the call, by what came of it
pub opened : {T : Type 0} (meaning : T → Meaning) (config text : List ℕ) (c : Configuration) (result : Result T CallError) → IsConfig config c
    → 0 < length text → MatchResult result (λ t. IsSnapshot c (Some text) (meaning t)) (RefusesSnapshotText c text)
    → MatchResult result (λ t. OpensBytes config text (meaning t)) (RefusesOpening config text)
opened meaning config text c (Ok t) is some snapshot = record { configuration = c; is = is; begins = inr (some, snapshot) }
opened meaning config text c (Err e) is some refused = opening_refused config text c e is some refused

-- ---- an answer

pub give_refused : (bytes : List ℕ) (why : SyncError) → (why ≡ Io → ⊥) → HasBadGive bytes why → RefusesGiveBytes bytes (Sync why)
give_refused bytes Io sound bad = absurd (sound refl)
give_refused bytes why sound bad = inl bad

pub answer_refused : (old : HeldAndRoom) (bytes : List ℕ) (e : CallError) → RefusesGiveBytes bytes e → RefusesAnswerBytes old bytes e
answer_refused old bytes (Sync Io) refused = absurd refused
answer_refused old bytes (Sync why) refused = inl refused
answer_refused old bytes e refused = refused

pub absorbing_refused : (old : HeldAndRoom) (bytes : List ℕ) (why : SyncError) → RefusesAbsorbed old bytes why → RefusesAnswerBytes old bytes (Sync why)
absorbing_refused old bytes Io refused = refused.cause
absorbing_refused old bytes why refused = inr refused
