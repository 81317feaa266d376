-- The keys of accepted bundles that have the public key of a distrusted key
use Rattle.std.specs.Prelude.{◌≡◌, ℕ, List, map}
use Rattle.jwk_set.specs.declared.authority.KeyId.{KeyId}
use Rattle.fed_config.specs.Configuration.{AreDomains}
use Rattle.receipt_core.specs.Acceptance.{Meaning}
use Rattle.key_view.specs.SameKeys.{AreSameKeys}
use Rattle.status_warnings.specs.declared.seen.SamePublicKey.{SamePublicKey}
use Rattle.status_warnings.specs.CertificateEnds.{AreParts}

abbrev pub same_key_of : List ℕ → KeyId → SamePublicKey
same_key_of domain key = record { domain = domain; key = key }

-- those of the domain
pub record AreSameKeysIn (m : Meaning) (domain : List ℕ) (found : List SamePublicKey)
    : Type 0 where
  pub keys : List KeyId
  pub are : AreSameKeys m domain keys
  pub is : found ≡ map (same_key_of domain) keys

-- those of the domains of the configuration, sorted
pub record AreAllSameKeys (m : Meaning) (found : List SamePublicKey) : Type 0 where
  pub domains : List (List ℕ)
  pub are_domains : AreDomains m.config domains
  pub each : AreParts (AreSameKeysIn m) domains found
