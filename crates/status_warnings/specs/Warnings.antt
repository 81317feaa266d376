-- What is wrong with a replica: each warning, and when there is one
use Rattle.std.specs.Prelude.{ℕ, ℤ, pos, ◌+◌, ◌*◌, ◌+ℤ◌, int_le, nat_lt, Bool, true, false}
use Rattle.std.specs.Prelude.{◌&&◌, cond, List, [], ◌∷◌, ◌++◌, flat_map, string_bytes}
use Rattle.std.specs.Prelude.{Option, Some, None}
use Rattle.std.specs.List.{list_all}
use Rattle.status_view.specs.declared.running.PeerStatus.{PeerStatus}
use Rattle.status_view.specs.declared.status.Status.{Status}
use Rattle.status_view.specs.declared.status.DomainStatus.{DomainStatus}
use Rattle.status_view.specs.declared.status.CurrentStatus.{CurrentStatus}
use Rattle.status_view.specs.declared.status.KeyStatus.{KeyStatus}
use Rattle.status_view.specs.Status.{is_nearly_full}
use Rattle.status_warnings.specs.declared.seen.CertificateEnd.{CertificateEnd}
use Rattle.status_warnings.specs.declared.seen.Fetch.{Fetch}
use Rattle.status_warnings.specs.declared.seen.SamePublicKey.{SamePublicKey}
use Rattle.status_warnings.specs.declared.seen.Seen.{Seen}
use Rattle.status_warnings.specs.declared.seen.WarnLimits.{WarnLimits}
use Rattle.status_warnings.specs.declared.warning_kinds.DomainFault.{DomainFault}
use Rattle.status_warnings.specs.declared.warning_kinds.DomainFault.TheVariants.{NoCurrent}
use Rattle.status_warnings.specs.declared.warning_kinds.DomainFault.TheVariants.{LockedOut}
use Rattle.status_warnings.specs.declared.warning_kinds.DomainFault.TheVariants.{Conflict}
use Rattle.status_warnings.specs.declared.warning_kinds.DomainFault.TheVariants.{NoSequence}
use Rattle.status_warnings.specs.declared.warning_kinds.Stock.{Stock}
use Rattle.status_warnings.specs.declared.warning_kinds.Stock.TheVariants.{Receipts, Records}
use Rattle.status_warnings.specs.declared.warning_kinds.Warning.{Warning}
use Rattle.status_warnings.specs.declared.warning_kinds.Warning.TheVariants.{Domain, Expires}
use Rattle.status_warnings.specs.declared.warning_kinds.Warning.TheVariants.{NearlyFull, NotFetched}
use Rattle.status_warnings.specs.declared.warning_kinds.Warning.TheVariants.{QuietPeer, SameKey}

-- ---- a trust domain

-- there is no current bundle
abbrev pub is_without : Option CurrentStatus → Bool
is_without None = true
is_without (Some s) = false

abbrev pub lists_no_trusted : List KeyStatus → Bool
lists_no_trusted keys = list_all (λ k. k.is_distrusted) keys

-- the current bundle has no X.509 authority, or only distrusted ones
abbrev pub is_locked_out : Option CurrentStatus → Bool
is_locked_out None = false
is_locked_out (Some s) = lists_no_trusted s.keys.items

abbrev pub is_absent : Option ℕ → Bool
is_absent None = true
is_absent (Some n) = false

-- the current bundle has no sequence number
abbrev pub is_unordered : Option CurrentStatus → Bool
is_unordered None = false
is_unordered (Some s) = is_absent s.sequence

-- Another bundle than the current one is accepted if there is more than one.
abbrev pub has_fault : DomainFault → DomainStatus → Bool
has_fault NoCurrent d = is_without d.current
has_fault LockedOut d = is_locked_out d.current
has_fault Conflict d = nat_lt 0 d.conflicts
has_fault NoSequence d = nat_lt 1 d.accepted && is_unordered d.current

abbrev pub domain_warning : DomainFault → DomainStatus → List Warning
domain_warning fault d = cond (has_fault fault d) (Domain fault d.domain ∷ []) []

abbrev pub warnings_of_fault : List DomainStatus → DomainFault → List Warning
warnings_of_fault domains fault = flat_map (domain_warning fault) domains

abbrev pub all_domain_faults : List DomainFault
all_domain_faults = NoCurrent ∷ LockedOut ∷ Conflict ∷ NoSequence ∷ []

-- ---- a public key

-- an accepted bundle has the key, which is not distrusted, though one with its public key is
abbrev pub same_key_warning : SamePublicKey → List Warning
same_key_warning s = SameKey s.domain s.key ∷ []

-- ---- a certificate

-- it ends within this many days, or has ended
abbrev pub ends_soon : WarnLimits → CertificateEnd → Bool
ends_soon limits c = int_le c.not_after (limits.moment +ℤ pos (limits.expires_within * 86400))

abbrev pub expiry_warning : WarnLimits → CertificateEnd → List Warning
expiry_warning limits c = cond (ends_soon limits c) (Expires c.domain c.key c.not_after ∷ []) []

-- ---- how a domain is fetched

-- no poll succeeded for three times the wait, or none ever did
abbrev pub is_late : ℤ → Option ℤ → ℕ → Bool
is_late now None wait = true
is_late now (Some fetched) wait = int_le (fetched +ℤ pos (wait * 3)) now

abbrev pub late_warning : WarnLimits → Fetch → List Warning
late_warning limits f =
    cond (is_late limits.moment f.fetched f.wait) (NotFetched f.domain f.fetched ∷ []) []

-- ---- a peer

-- when a session last ended well, or else when the replica began
abbrev pub quiet_since : ℕ → Option ℕ → ℕ
quiet_since began None = began
quiet_since began (Some second) = second

abbrev pub is_quiet : WarnLimits → ℕ → Bool
is_quiet limits since = int_le (pos (since + limits.peer_quiet)) limits.moment

abbrev pub peer_warning : WarnLimits → ℕ → PeerStatus → List Warning
peer_warning limits since p =
    cond (is_quiet limits since) (QuietPeer (string_bytes p.address) since ∷ []) []

abbrev pub quiet_warning : WarnLimits → ℕ → PeerStatus → List Warning
quiet_warning limits began p = peer_warning limits (quiet_since began p.ended_well) p

-- ---- what is held

abbrev pub stock_warning : Stock → (held most : ℕ) → List Warning
stock_warning stock held most =
    cond (is_nearly_full held most) (NearlyFull stock held most ∷ []) []

-- of the receipts and the records of distrust that may be held
abbrev pub full_warnings : Status → List Warning
full_warnings s = stock_warning Receipts s.receipts s.receipt_limit
    ++ stock_warning Records s.records s.record_limit

-- ---- the whole

-- what is looked at: the status of the replica, the certificates of current bundles, the keys that
-- have the public key of a distrusted one, how domains are fetched, the peers, and when the replica
-- that has them began
pub record Sight : Type 0 where
  pub status : Status
  pub certificates : List CertificateEnd
  pub same_keys : List SamePublicKey
  pub fetches : List Fetch
  pub peers : List PeerStatus
  pub began : ℕ

abbrev pub sight_of : Seen → Sight
sight_of seen = record {
  status = seen.status.now;
  certificates = seen.certificates.now;
  same_keys = seen.same_keys.now;
  fetches = seen.fetches.now;
  peers = seen.peers.now;
  began = seen.began;
}

-- by kinds, and within a kind in the order in which things are looked at
abbrev pub warnings_of : WarnLimits → Sight → List Warning
warnings_of limits sight =
    flat_map (warnings_of_fault sight.status.domains.items) all_domain_faults
    ++ (flat_map same_key_warning sight.same_keys
    ++ (flat_map (expiry_warning limits) sight.certificates
    ++ (flat_map (late_warning limits) sight.fetches
    ++ (flat_map (quiet_warning limits sight.began) sight.peers
    ++ full_warnings sight.status))))
