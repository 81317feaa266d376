-- Which keys of a domain have one public key
use Rattle.std.specs.Prelude.{◌≡◌, ℕ, Bool, false, cond, List, [], ◌∷◌}
use Rattle.std.specs.Str.{bytes_eq}
use Rattle.std.specs.List.{list_any}
use Rattle.jwk_set.specs.declared.authority.KeyId.{KeyId}
use Rattle.receipt_core.specs.Acceptance.{Meaning}
use Rattle.receipt_core.specs.declared.distrust.Distrust.{Distrust}
use Rattle.key_view.specs.declared.key_listing.DomainKeys.{DomainKeys}
use Rattle.key_view.specs.declared.known_entry.KeyEntry.{KeyEntry}
use Rattle.key_view.specs.KeyEntries.{IsDomainKeys, has_distrusted_key, is_one_public_key}

-- a key is distrusted in the domain
abbrev pub has_record : List ℕ → List Distrust → Bool
has_record domain records = list_any (λ r. bytes_eq r.domain domain) records

-- those of some of a domain's keys that have the public key of a distrusted one
abbrev pub same_ids_among : List KeyEntry → List KeyEntry → List KeyId
same_ids_among keys [] = []
same_ids_among keys (e ∷ others) = cond (has_distrusted_key keys e)
    (e.key ∷ same_ids_among keys others) (same_ids_among keys others)

-- those with this public key
abbrev pub ids_with : List ℕ → List KeyEntry → List KeyId
ids_with wanted [] = []
ids_with wanted (e ∷ others) = cond (is_one_public_key e.parts wanted)
    (e.key ∷ ids_with wanted others) (ids_with wanted others)

-- those of the domain, whatever entries say what is known of its keys
abbrev pub AreSameKeysOf : Meaning → List ℕ → List KeyId → Type 0
AreSameKeysOf m domain ids = (keys : DomainKeys) → keys.domain ≡ domain → IsDomainKeys m keys
    → ids ≡ same_ids_among keys.keys.items keys.keys.items

-- A domain without a record of distrust has none.
pub record AreSameKeys (m : Meaning) (domain : List ℕ) (ids : List KeyId) : Type 0 where
  pub are : AreSameKeysOf m domain ids
  pub none : has_record domain m.records ≡ false → ids ≡ []

-- the keys of the domain with this public key
pub record AreKeysWith (m : Meaning) (domain wanted : List ℕ) (ids : List KeyId)
    : Type 0 where
  pub keys : DomainKeys
  pub of : keys.domain ≡ domain
  pub are : IsDomainKeys m keys
  pub is : ids ≡ ids_with wanted keys.keys.items
