-- The certificates of current bundles, and when each ends
use Rattle.std.specs.Prelude.{◌≡◌, ℕ, List, [], ◌∷◌, ◌++◌, Option, Some, None}
use Rattle.sha2.specs.Sha256.{sha256}
use Rattle.cert_key.specs.Certificate.{Certificate, IsSpelled}
use Rattle.cert_key.specs.Moment.{moment_of, unix_seconds}
use Rattle.jwk_set.specs.declared.authority.Authority.{Authority}
use Rattle.jwk_set.specs.declared.authority.Authority.TheVariants.{X509, Jwt}
use Rattle.bundle_doc.specs.Bundle.{Bundle}
use Rattle.fed_config.specs.Configuration.{AreDomains}
use Rattle.receipt_core.specs.Acceptance.{Meaning}
use Rattle.bundle_view.specs.Current.{IsCurrent}
use Rattle.status_warnings.specs.declared.seen.CertificateEnd.{CertificateEnd}

-- Each gives its part of the list, in their order.
abbrev pub AreParts : {X Y : Type 0} → (X → List Y → Type 0) → List X → List Y → Type 0
AreParts Gives [] whole = whole ≡ []
AreParts {Y = Y} Gives (x ∷ xs) whole = (part : List Y) × (others : List Y)
    × Gives x part × AreParts Gives xs others × (whole ≡ part ++ others)

-- the certificate, and the last second at which it is valid (RFC 5280, section 4.1.2.5)
pub record IsEnd (domain der : List ℕ) (e : CertificateEnd) : Type 0 where
  pub of : e.domain ≡ domain
  pub key : e.key.0 ≡ sha256 der
  pub certificate : Certificate
  pub spelled : IsSpelled certificate der
  pub not_after : e.not_after ≡ unix_seconds (moment_of certificate.not_after)

-- Bytes that are not a certificate have no end.
abbrev pub IsEndOf : (domain der : List ℕ) → List CertificateEnd → Type 0
IsEndOf domain der [] = (c : Certificate) → IsSpelled c der → ⊥
IsEndOf domain der (e ∷ []) = IsEnd domain der e
IsEndOf domain der (e ∷ f ∷ others) = ⊥

abbrev pub IsEndOfAuthority : List ℕ → Authority → List CertificateEnd → Type 0
IsEndOfAuthority domain (X509 key der) ends = IsEndOf domain der ends
IsEndOfAuthority domain (Jwt kid key) ends = ends ≡ []

abbrev pub AreEndsOfCurrent : List ℕ → Option Bundle → List CertificateEnd → Type 0
AreEndsOfCurrent domain None ends = ends ≡ []
AreEndsOfCurrent domain (Some b) ends = AreParts (IsEndOfAuthority domain) b.authorities ends

-- those of the authorities of the domain's current bundle
pub record AreEndsOf (m : Meaning) (domain : List ℕ) (ends : List CertificateEnd) : Type 0 where
  pub current : Option Bundle
  pub is_current : IsCurrent m domain current
  pub are : AreEndsOfCurrent domain current ends

-- those of the domains of the configuration, sorted
pub record AreAllEnds (m : Meaning) (ends : List CertificateEnd) : Type 0 where
  pub domains : List (List ℕ)
  pub are_domains : AreDomains m.config domains
  pub each : AreParts (AreEndsOf m) domains ends

-- Such a part was added.
abbrev pub AddsPart : {Y : Type 0} → (List Y → Type 0) → (old new : List Y) → Type 0
AddsPart {Y = Y} Is old new = (part : List Y) × Is part × (new ≡ old ++ part)
