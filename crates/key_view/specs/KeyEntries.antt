-- What is known of the keys of each domain
use Rattle.std.specs.Prelude.{◌≡◌, ◌↔◌, ℕ, Bool, false, not, ◌&&◌, cond, IsTrue, List, [], ◌∷◌, map}
use Rattle.std.specs.Prelude.{length, Contains, Option, Some, None, option_map, string_bytes}
use Rattle.std.specs.Prelude.{nat_eq}
use Rattle.std.specs.Str.{bytes_eq}
use Rattle.std.specs.List.{AllZip, list_any}
use Rattle.sha2.specs.Sha256.{sha256}
use Rattle.jwk_set.specs.Element.{key_id_of}
use Rattle.jwk_set.specs.declared.authority.Authority.{Authority}
use Rattle.jwk_set.specs.declared.authority.KeyId.{KeyId}
use Rattle.bundle_doc.specs.Bundle.{Bundle, doc_id_of}
use Rattle.bundle_doc.specs.declared.document.DocId.{DocId}
use Rattle.fed_config.specs.Configuration.{AreDomains}
use Rattle.receipt_core.specs.Acceptance.{Meaning}
use Rattle.receipt_core.specs.declared.distrust.Distrust.{Distrust}
use Rattle.closure_core.specs.AcceptedList.{IsAcceptedList}
use Rattle.cert_key.specs.Certificate.{Certificate, IsSpelled, parts_of}
use Rattle.cert_key.specs.Moment.{moment_of, moment_text}
use Rattle.cert_key.specs.Name.{IsNameText}
use Rattle.key_view.specs.declared.key_listing.DomainKeys.{DomainKeys}
use Rattle.key_view.specs.declared.known_entry.KeyEntry.{KeyEntry}
use Rattle.key_view.specs.declared.known_entry.KeyParts.{KeyParts}
use Rattle.key_view.specs.declared.met_keys.KnownKey.{KnownKey}
use Rattle.key_view.specs.KnownKeys.{is_one_key, known_keys}

-- ---- one key

-- a domain, its accepted documents, and the records of distrust
pub record DomainView : Type 0 where
  pub domain : List ℕ
  pub accepted : List Bundle
  pub records : List Distrust

-- what the certificate says: the digest of its public key, its validity in seconds and as dates,
-- and its subject
pub record IsReadOf (c : Certificate) (p : KeyParts) : Type 0 where
  pub public_key : p.public_key ≡ sha256 (parts_of c).public_key
  pub not_before : p.not_before ≡ (parts_of c).not_before
  pub not_after : p.not_after ≡ (parts_of c).not_after
  pub valid_from : string_bytes p.valid_from ≡ moment_text (moment_of c.not_before)
  pub valid_until : string_bytes p.valid_until ≡ moment_text (moment_of c.not_after)
  pub subject : IsNameText (parts_of c).subject (option_map string_bytes p.subject)

-- what these bytes say as a certificate, and nothing if they do not spell one
abbrev pub IsKeyParts : List ℕ → Option KeyParts → Type 0
IsKeyParts der None = (c : Certificate) → IsSpelled c der → ⊥
IsKeyParts der (Some p) = (c : Certificate) × IsSpelled c der × IsReadOf c p

-- the authority is one of X.509, and has this key
abbrev pub is_some_key : Option KeyId → KeyId → Bool
is_some_key None key = false
is_some_key (Some own) key = is_one_key own key

abbrev pub is_own_id : KeyId → Authority → Bool
is_own_id key a = is_some_key (key_id_of a) key

abbrev pub bundle_lists : KeyId → Bundle → Bool
bundle_lists key d = list_any (is_own_id key) d.authorities

-- the ids of the documents that list the key
abbrev pub bundle_ids : List ℕ → KeyId → List Bundle → List DocId
bundle_ids domain key [] = []
bundle_ids domain key (d ∷ others) = cond (bundle_lists key d)
    (record { 0 = doc_id_of domain d } ∷ bundle_ids domain key others)
    (bundle_ids domain key others)

pub record IsKeyEntry (of : DomainView) (known : KnownKey) (e : KeyEntry) : Type 0 where
  pub key : e.key ≡ known.key
  pub parts : IsKeyParts known.der e.parts
  pub bundles : e.bundles.items ≡ bundle_ids of.domain known.key of.accepted
  pub distrusted : IsTrue e.is_distrusted
      ↔ Contains of.records (record { domain = of.domain; key = known.key })

-- ---- the keys of a domain

-- one entry for each key that is known, in their order
pub record IsDomainKeys (m : Meaning) (k : DomainKeys) : Type 0 where
  pub accepted : List Bundle
  pub are_accepted : IsAcceptedList m k.domain accepted
  pub each : AllZip
      (IsKeyEntry (record { domain = k.domain; accepted = accepted; records = m.records }))
      (known_keys m.held k.domain accepted) k.keys.items

-- all domains of the configuration, sorted
pub record AreAllKeys (m : Meaning) (all : List DomainKeys) : Type 0 where
  pub domains : AreDomains m.config (map (λ k. k.domain) all)
  pub each : (k : DomainKeys) → Contains all k → IsDomainKeys m k

-- ---- the same public key

abbrev pub is_one_public_key : Option KeyParts → List ℕ → Bool
is_one_public_key None wanted = false
is_one_public_key (Some p) wanted = bytes_eq p.public_key wanted

-- a distrusted key of the domain has the public key
abbrev pub has_public_key : List KeyEntry → List ℕ → Bool
has_public_key entries wanted =
    list_any (λ o. o.is_distrusted && is_one_public_key o.parts wanted) entries

abbrev pub has_distrusted_parts : List KeyEntry → Option KeyParts → Bool
has_distrusted_parts entries None = false
has_distrusted_parts entries (Some p) = has_public_key entries p.public_key

-- an accepted document lists the key, and it is not distrusted, though one with its public key is
abbrev pub has_distrusted_key : List KeyEntry → KeyEntry → Bool
has_distrusted_key entries e =
    not e.is_distrusted && not (nat_eq (length e.bundles.items) 0)
    && has_distrusted_parts entries e.parts
