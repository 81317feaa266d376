-- What bytes are a key's digits, why bytes are refused as a name, and what a call reports that can
-- lack nothing but memory.
use Rattle.std.specs.Prelude.{◌≡◌, ℕ, List}
use Rattle.std.specs.Str.{IsUtf8}
use Rattle.hex.specs.Hex.{encode_lower}
use Rattle.jwk_set.specs.declared.authority.KeyId.{KeyId}
use Rattle.receipt_core.specs.Receipt.{IsDigest}
use Rattle.spiffe_name.specs.TrustDomain.{IsDomainText, RefusesDomain}
use Rattle.spiffe_name.specs.SpiffeId.{IsIdText, RefusesId}
use Rattle.replica_core.specs.declared.error.SyncError.TheVariants.{NoMemory as NoMemoryToSync}
use Rattle.replica_c_calls.specs.declared.call_error.CallError.{CallError}
use Rattle.replica_c_calls.specs.declared.call_error.CallError.TheVariants.{Usage, Name, Sync}
use Rattle.replica_c_calls.specs.declared.call_error.CallError.TheVariants.{NoMemory}

-- the bytes are the lower-case digits of a key id
abbrev pub IsKeyDigits : List ℕ → KeyId → Type 0
IsKeyDigits digits key = (encode_lower key.0 ≡ digits) × IsDigest key.0

-- they are those of none
abbrev pub IsNoKey : List ℕ → Type 0
IsNoKey digits = (key : KeyId) → IsKeyDigits digits key → ⊥

-- the bytes are not a domain's name
abbrev pub RefusesDomainBytes : List ℕ → CallError → Type 0
RefusesDomainBytes bytes Usage = IsUtf8 bytes → ⊥
RefusesDomainBytes bytes (Name e) = RefusesDomain bytes e
RefusesDomainBytes bytes _ = ⊥

-- they are a SPIFFE ID
abbrev pub NamesId : List ℕ → Type 0
NamesId bytes = (domain path : List ℕ) × IsIdText bytes domain path

-- they are not a SPIFFE ID
abbrev pub RefusesIdBytes : List ℕ → CallError → Type 0
RefusesIdBytes bytes Usage = IsUtf8 bytes → ⊥
RefusesIdBytes bytes (Name e) = RefusesId bytes e
RefusesIdBytes bytes _ = ⊥

-- they are not a domain's name, or they are one and memory ran out after it was read
abbrev pub RefusesDomainText : List ℕ → CallError → Type 0
RefusesDomainText bytes NoMemory = IsDomainText bytes
RefusesDomainText bytes e = RefusesDomainBytes bytes e

-- memory ran out
abbrev pub IsWantOfMemory : CallError → Type 0
IsWantOfMemory NoMemory = Unit {0}
IsWantOfMemory (Sync NoMemoryToSync) = Unit {0}
IsWantOfMemory _ = ⊥
