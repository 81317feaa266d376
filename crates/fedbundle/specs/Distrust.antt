-- What a run of `distrust` does to what is held, and what it writes if that is asked for
use Rattle.std.specs.Prelude.{◌≡◌, ℕ, List, ◌++◌, codes, map, flat_map, Result, Ok, Err}
use Rattle.hex.specs.Hex.{encode_lower}
use Rattle.jwk_set.specs.declared.authority.KeyId.{KeyId}
use Rattle.receipt_core.specs.Acceptance.{Meaning}
use Rattle.receipt_core.specs.Receipt.{distrust_cmp}
use Rattle.receipt_core.specs.Rising.{with_items}
use Rattle.receipt_core.specs.declared.distrust.Distrust.{Distrust}
use Rattle.closure_core.specs.declared.error.TakeError.{TakeError}
use Rattle.replica_core.specs.Absorbing.{IsFirstRefused, of_records}
use Rattle.key_view.specs.KeysText.{IsSameKeysText}
use Rattle.distrust_view.specs.DistrustEffect.{IsEffectText, distrust_change}
use Rattle.distrust_view.specs.declared.given_keys.GivenKeys.{GivenKeys}
use Rattle.fedbundle.specs.CommandRun.{PrintsText, CutsOff, WritesNothing}
use Rattle.command_exits.specs.DeviceRuns.{DeviceRun}
use Rattle.command_exits.specs.declared.error.CommandError.{CommandError}
use Rattle.command_exits.specs.declared.error.CommandError.TheVariants.{Take, Io, NoMemory}

-- the records of distrust for these keys of the domain
abbrev pub records_for : (domain : List ℕ) → List KeyId → List Distrust
records_for domain keys = map (λ key. record { domain = domain; key = key }) keys

abbrev pub given_records : GivenKeys → List Distrust
given_records given = records_for given.domain given.keys.items

-- what is held once the keys are distrusted, too
abbrev pub with_distrusted : GivenKeys → Meaning → Meaning
with_distrusted given m =
    record m { records = with_items distrust_cmp (given_records given) m.records }

-- The records would be refused if they were made one after another: one of them for this cause.
-- All is as it was.
pub record HasRefusedKeys (old : Meaning) (given : GivenKeys) (new : Meaning) (why : TakeError)
    : Type 0 where
  pub number : ℕ
  pub first : IsFirstRefused old (of_records (given_records given)) number why
  pub same : new ≡ old

-- By the answer: all keys are distrusted; or none is that was not, for a cause or for lack of
-- memory.
abbrev pub RunsDistrust : Meaning → GivenKeys → Meaning → Result (Unit {0}) CommandError → Type 0
RunsDistrust old given new (Ok _) = new ≡ with_distrusted given old
RunsDistrust old given new (Err (Take why)) = HasRefusedKeys old given new why
RunsDistrust old given new (Err NoMemory) = new ≡ old
RunsDistrust old given new (Err _) = ⊥

-- ---- what the records change, shown

-- The lines of what the records change, and then those of keys that have the public key of a
-- distrusted one afterwards, by what is held before and after.
pub record SaysWhatChanges (m after : Meaning) (given : GivenKeys) (text : List ℕ)
    : Type 0 where
  pub effect : List ℕ
  pub is_effect : IsEffectText (distrust_change m after given) effect
  pub same : List ℕ
  pub is_same : IsSameKeysText after given.domain same
  pub is : text ≡ effect ++ same

-- These lines were written, and nothing else.
pub record PrintsDistrust (m : Meaning) (given : GivenKeys) (sink : DeviceRun) : Type 0 where
  pub text : List ℕ
  pub is : SaysWhatChanges m (with_distrusted given m) given text
  pub written : PrintsText sink text

-- The sink failed after a beginning of these lines.
pub record CutsDistrust (m : Meaning) (given : GivenKeys) (sink : DeviceRun) : Type 0 where
  pub text : List ℕ
  pub is : SaysWhatChanges m (with_distrusted given m) given text
  pub cut : CutsOff sink text

-- The records are refused for this cause, and nothing was written.
pub record RefusesToShow (m : Meaning) (given : GivenKeys) (sink : DeviceRun) (why : TakeError)
    : Type 0 where
  pub refused : HasRefusedKeys m given m why
  pub unwritten : WritesNothing sink

-- By the answer, one of these, or memory ran out before anything was written. There is no other
-- error. What is held is not changed: the call borrows it.
abbrev pub ShowsDistrust : Meaning → GivenKeys → DeviceRun → Result (Unit {0}) CommandError → Type 0
ShowsDistrust m given sink (Ok _) = PrintsDistrust m given sink
ShowsDistrust m given sink (Err Io) = CutsDistrust m given sink
ShowsDistrust m given sink (Err NoMemory) = WritesNothing sink
ShowsDistrust m given sink (Err (Take why)) = RefusesToShow m given sink why
ShowsDistrust m given sink (Err _) = ⊥

-- ---- which keys they are

abbrev pub distrusted_line : KeyId → List ℕ
distrusted_line key = codes "distrusted " ++ (encode_lower key.0 ++ codes "\n")

abbrev pub given_key_lines : GivenKeys → List ℕ
given_key_lines given = flat_map distrusted_line given.keys.items
