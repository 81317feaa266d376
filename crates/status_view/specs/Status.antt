-- The status of a replica, for operators: what it holds, and the current bundle of each domain
use Rattle.std.specs.Prelude.{◌≡◌, ℕ, ◌*◌, Bool, false, ◌&&◌, ◌||◌, not, nat_lt}
use Rattle.std.specs.Prelude.{List, map, filter, length, Contains}
use Rattle.std.specs.Prelude.{Option, Some, None}
use Rattle.std.specs.Str.{bytes_eq}
use Rattle.std.specs.List.{list_any}
use Rattle.jwk_set.specs.declared.authority.KeyId.{KeyId}
use Rattle.bundle_doc.specs.Bundle.{Bundle, doc_id_of}
use Rattle.fed_config.specs.Configuration.{AreDomains, config_id_of}
use Rattle.fed_config.specs.declared.seed.Seed.{Seed}
use Rattle.receipt_core.specs.Acceptance.{Meaning}
use Rattle.receipt_core.specs.Limits.{receipt_limit, record_limit}
use Rattle.receipt_core.specs.Receipt.{key_ids}
use Rattle.receipt_core.specs.declared.distrust.Distrust.{Distrust}
use Rattle.closure_core.specs.AcceptedList.{IsAcceptedList, IsPendingCount}
use Rattle.bundle_view.specs.Current.{IsCurrent}
use Rattle.bundle_view.specs.Conflicts.{AreAllConflicts, ReportedConflict}
use Rattle.status_view.specs.declared.status.Status.{Status}
use Rattle.status_view.specs.declared.status.DomainStatus.{DomainStatus}
use Rattle.status_view.specs.declared.status.CurrentStatus.{CurrentStatus}
use Rattle.status_view.specs.declared.status.KeyStatus.{KeyStatus}
use Rattle.status_view.specs.declared.status.KeylessSeed.{KeylessSeed}

-- ---- the current bundle of a domain

-- the record distrusts the key in the domain
abbrev pub is_against : List ℕ → KeyId → Distrust → Bool
is_against domain key x = bytes_eq x.domain domain && bytes_eq x.key.0 key.0

-- a key, and whether it is distrusted in the domain
abbrev pub key_status : List Distrust → List ℕ → KeyId → KeyStatus
key_status records domain key =
    record { key = key; is_distrusted = list_any (is_against domain key) records }

-- its id, its sequence number, its refresh hint, and the different keys of its X.509 authorities,
-- sorted
pub record SaysCurrentBundle (m : Meaning) (domain : List ℕ) (d : Bundle) (s : CurrentStatus)
    : Type 0 where
  pub id : s.id.0 ≡ doc_id_of domain d
  pub sequence : s.sequence ≡ d.rank
  pub refresh_hint : s.refresh_hint ≡ d.hint
  pub keys : s.keys.items ≡ map (key_status m.records domain) (key_ids d.authorities)

-- the same if there is a current bundle
abbrev pub SaysCurrent : Meaning → List ℕ → Option Bundle → Option CurrentStatus → Type 0
SaysCurrent m domain None None = Unit {0}
SaysCurrent m domain None (Some s) = ⊥
SaysCurrent m domain (Some d) None = ⊥
SaysCurrent m domain (Some d) (Some s) = SaysCurrentBundle m domain d s

-- ---- a domain

abbrev pub is_clash_of : List ℕ → ReportedConflict → Bool
is_clash_of domain c = bytes_eq c.domain domain

-- its current bundle, and how many bundles are accepted and how many conflicts it has, of all
-- conflicts
pub record IsDomainStatus (m : Meaning) (clashes : List ReportedConflict) (s : DomainStatus)
    : Type 0 where
  pub current : Option Bundle
  pub is_current : IsCurrent m s.domain current
  pub says : SaysCurrent m s.domain current s.current
  pub documents : List Bundle
  pub are_accepted : IsAcceptedList m s.domain documents
  pub accepted : s.accepted ≡ length documents
  pub conflicts : s.conflicts ≡ length (filter (is_clash_of s.domain) clashes)

-- ---- configured bundles by which no endpoint can be authenticated

-- no X.509 authority is among its authorities
abbrev pub is_keyless : Seed → Bool
is_keyless s = not (nat_lt 0 (length (key_ids s.document.authorities)))

abbrev pub keyless_by : Seed → KeylessSeed
keyless_by s = record { domain = s.domain; id = record { 0 = doc_id_of s.domain s.document } }

-- ---- the whole

-- The configuration's digest, what is held and how much may be, each domain of the configuration,
-- sorted, and the configured bundles without an X.509 authority, in the order of the configuration
pub record IsStatus (m : Meaning) (s : Status) : Type 0 where
  pub config : s.config.0 ≡ config_id_of m.config
  pub receipts : s.receipts ≡ length m.held
  pub receipt_limit : s.receipt_limit ≡ receipt_limit m.config
  pub pending : IsPendingCount m s.pending
  pub records : s.records ≡ length m.records
  pub record_limit : s.record_limit ≡ record_limit m.config
  pub clashes : List ReportedConflict
  pub are_conflicts : AreAllConflicts m clashes
  pub domains : AreDomains m.config (map (λ d. d.domain) s.domains.items)
  pub each : (d : DomainStatus) → Contains s.domains.items d → IsDomainStatus m clashes d
  pub keyless : s.keyless_seeds.items ≡ map keyless_by (filter is_keyless m.config.seeds)

-- ---- what an operator has to do something about

-- more than nine tenths
abbrev pub is_nearly_full : (count limit : ℕ) → Bool
is_nearly_full count limit = nat_lt (9 * limit) (10 * count)

abbrev pub lists_distrusted : Option CurrentStatus → Bool
lists_distrusted None = false
lists_distrusted (Some s) = list_any (λ k. k.is_distrusted) s.keys.items

-- A configured bundle has no X.509 authority, a current one lists a distrusted key, or there is
-- room for less than a tenth of the receipts or of the records of distrust.
abbrev pub has_warning : Status → Bool
has_warning s = nat_lt 0 (length s.keyless_seeds.items)
    || (list_any (λ d. lists_distrusted d.current) s.domains.items
    || (is_nearly_full s.receipts s.receipt_limit || is_nearly_full s.records s.record_limit))
