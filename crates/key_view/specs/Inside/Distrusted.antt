-- The distrusted keys of a domain, and those that share a public key with one of them
use Rattle.std.specs.Prelude.{◌≡◌, ◌↔◌, ℕ, Bool, true, false, not, ◌&&◌, cond, IsTrue, List, []}
use Rattle.std.specs.Prelude.{◌∷◌}
use Rattle.std.specs.Prelude.{Contains, Option, Some, None}
use Rattle.std.specs.List.{AllZip}
use Rattle.std.specs.BTreeSet.{BTreeSet, contains}
use Rattle.sha2.specs.Sha256.{sha256}
use Rattle.jwk_set.specs.declared.authority.KeyId.{KeyId}
use Rattle.receipt_core.specs.Receipt.{key_cmp}
use Rattle.receipt_core.specs.declared.distrust.Distrust.{Distrust}
use Rattle.cert_key.specs.Certificate.{Certificate, IsSpelled, parts_of}
use Rattle.key_view.specs.declared.distrusted_keys.DistrustedKeys.{DistrustedKeys}
use Rattle.key_view.specs.declared.known_entry.KeyEntry.{KeyEntry}
use Rattle.key_view.specs.declared.known_entry.KeyParts.{KeyParts}
use Rattle.key_view.specs.declared.met_keys.KnownKey.{KnownKey}
use Rattle.key_view.specs.KeyEntries.{IsKeyParts}
use Rattle.key_view.specs.KnownKeys.{is_one_key, knows}
use Rattle.key_view.specs.Inside.PublicKeys.{AddsPublicKeyOf, HasPublicKeys, has_digest}

-- what an entry says of a key, without the documents that list it
pub record IsKnownAs (domain : List ℕ) (records : List Distrust) (known : KnownKey)
    (e : KeyEntry) : Type 0 where
  pub key : e.key ≡ known.key
  pub parts : IsKeyParts known.der e.parts
  pub distrusted : IsTrue e.is_distrusted
      ↔ Contains records (record { domain = domain; key = known.key })

abbrev pub AreKnownAs : List ℕ → List Distrust → List KnownKey → List KeyEntry → Type 0
AreKnownAs domain records known entries = AllZip (IsKnownAs domain records) known entries

-- the digest of the certificate's public key, and nothing if these bytes do not spell one
abbrev pub IsDigestOf : List ℕ → Option (List ℕ) → Type 0
IsDigestOf der None = (c : Certificate) → IsSpelled c der → ⊥
IsDigestOf der (Some digest) = (c : Certificate) × IsSpelled c der
    × (digest ≡ sha256 (parts_of c).public_key)

-- That of the certificate was added, whatever entry says what the certificate says.
abbrev pub AddsDigestOf : List ℕ → BTreeSet (List ℕ) → BTreeSet (List ℕ) → Type 0
AddsDigestOf der old new =
    (parts : Option KeyParts) → IsKeyParts der parts → AddsPublicKeyOf parts old new

-- The key was met, and if that was the first time, the public key was added.
pub record AddsDistrusted (key : KeyId) (der : List ℕ) (old new : DistrustedKeys)
    : Type 0 where
  pub ids : (id : KeyId) → contains key_cmp new.ids id
      ≡ cond (is_one_key key id) true (contains key_cmp old.ids id)
  pub again : contains key_cmp old.ids key ≡ true → new.public_keys ≡ old.public_keys
  pub first : contains key_cmp old.ids key ≡ false
      → AddsDigestOf der old.public_keys new.public_keys

-- These are the distrusted ones among the known keys, and their public keys.
pub record FindsDistrusted (domain : List ℕ) (records : List Distrust) (known : List KnownKey)
    (found : DistrustedKeys) : Type 0 where
  pub ids : (id : KeyId) → Contains records (record { domain = domain; key = id })
      → contains key_cmp found.ids id ≡ knows known id
  pub public_keys : (entries : List KeyEntry) → AreKnownAs domain records known entries
      → HasPublicKeys entries found.public_keys

-- The distrusted ones were added, whichever keys were known before.
abbrev pub Adds : List ℕ → List Distrust → (List KnownKey → List KnownKey) → DistrustedKeys
    → DistrustedKeys → Type 0
Adds domain records more old new = (known : List KnownKey)
    → FindsDistrusted domain records known old → FindsDistrusted domain records (more known) new

-- ---- those that are not distrusted

-- the certificate is read, and has one of the public keys
abbrev pub has_key_of : BTreeSet (List ℕ) → Option KeyParts → Bool
has_key_of public_keys None = false
has_key_of public_keys (Some p) = has_digest public_keys p.public_key

abbrev pub is_trusted_with : BTreeSet (List ℕ) → KeyEntry → Bool
is_trusted_with public_keys e = not e.is_distrusted && has_key_of public_keys e.parts

abbrev pub trusted_ids : BTreeSet (List ℕ) → List KeyEntry → List KeyId
trusted_ids public_keys [] = []
trusted_ids public_keys (e ∷ others) = cond (is_trusted_with public_keys e)
    (e.key ∷ trusted_ids public_keys others) (trusted_ids public_keys others)

-- The answer says whether the certificate has one of the public keys.
abbrev pub SaysIfHasKey : BTreeSet (List ℕ) → List ℕ → Bool → Type 0
SaysIfHasKey public_keys der has =
    (parts : Option KeyParts) → IsKeyParts der parts → has ≡ has_key_of public_keys parts

-- The answer says whether the key is not distrusted and has one of the public keys.
abbrev pub SaysIfTrusted : List ℕ → List Distrust → BTreeSet (List ℕ) → KnownKey → Bool
    → Type 0
SaysIfTrusted domain records public_keys known is =
    (e : KeyEntry) → IsKnownAs domain records known e → is ≡ is_trusted_with public_keys e

-- those of the known keys, whatever entries say what is known of them
abbrev pub AreTrustedWith : List ℕ → List Distrust → BTreeSet (List ℕ) → List KnownKey
    → List KeyId → Type 0
AreTrustedWith domain records public_keys known ids = (entries : List KeyEntry)
    → AreKnownAs domain records known entries → ids ≡ trusted_ids public_keys entries
