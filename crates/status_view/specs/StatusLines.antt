-- A status as lines for operators
use Rattle.std.specs.Prelude.{ℕ, List, [], ◌++◌, Bool, true, false, cond, flat_map}
use Rattle.std.specs.Prelude.{codes, decimal, Option, Some, None}
use Rattle.hex.specs.Hex.{encode_lower}
use Rattle.jwk_set.specs.declared.authority.KeyId.{KeyId}
use Rattle.text_lines.specs.TextLines.{number_or_none}
use Rattle.status_view.specs.declared.status.Status.{Status}
use Rattle.status_view.specs.declared.status.DomainStatus.{DomainStatus}
use Rattle.status_view.specs.declared.status.CurrentStatus.{CurrentStatus}
use Rattle.status_view.specs.declared.status.KeyStatus.{KeyStatus}
use Rattle.status_view.specs.declared.status.KeylessSeed.{KeylessSeed}
use Rattle.status_view.specs.Status.{is_nearly_full}

abbrev pub status_head : Status → List ℕ
status_head s = codes "config "
    ++ (encode_lower s.config.0
    ++ (codes "\nreceipts "
    ++ (decimal s.receipts
    ++ (codes " of "
    ++ (decimal s.receipt_limit
    ++ (codes " pending "
    ++ (decimal s.pending
    ++ (codes "\nrecords "
    ++ (decimal s.records ++ (codes " of " ++ (decimal s.record_limit ++ codes "\n")))))))))))

abbrev pub distrusted_mark : Bool → List ℕ
distrusted_mark true = codes " distrusted\n"
distrusted_mark false = codes "\n"

abbrev pub current_key_line : KeyStatus → List ℕ
current_key_line k = codes "  key " ++ (encode_lower k.key.0 ++ distrusted_mark k.is_distrusted)

abbrev pub current_bundle_lines : CurrentStatus → List ℕ
current_bundle_lines s = codes "  current "
    ++ (encode_lower s.id.0
    ++ (codes " sequence "
    ++ (number_or_none s.sequence
    ++ (codes " refresh-hint "
    ++ (number_or_none s.refresh_hint
    ++ (codes "\n" ++ flat_map current_key_line s.keys.items))))))

abbrev pub current_status_lines : Option CurrentStatus → List ℕ
current_status_lines None = codes "  current none\n"
current_status_lines (Some s) = current_bundle_lines s

abbrev pub domain_status_lines : DomainStatus → List ℕ
domain_status_lines s = codes "domain "
    ++ (s.domain
    ++ (codes "\n"
    ++ (current_status_lines s.current
    ++ (codes "  accepted "
    ++ (decimal s.accepted ++ (codes " conflicts " ++ (decimal s.conflicts ++ codes "\n")))))))

-- ---- warnings

abbrev pub keyless_line : KeylessSeed → List ℕ
keyless_line s = codes "warning: the configured bundle "
    ++ (encode_lower s.id.0
    ++ (codes " of " ++ (s.domain ++ (codes " has no X.509 authority" ++ codes "\n"))))

abbrev pub listed_key_line : List ℕ → KeyId → List ℕ
listed_key_line domain key = codes "warning: the current bundle of "
    ++ (domain ++ (codes " lists the distrusted key " ++ (encode_lower key.0 ++ codes "\n")))

abbrev pub distrusted_key_line : List ℕ → KeyStatus → List ℕ
distrusted_key_line domain k = cond k.is_distrusted (listed_key_line domain k.key) []

abbrev pub distrusted_lines_of : List ℕ → Option CurrentStatus → List ℕ
distrusted_lines_of domain None = []
distrusted_lines_of domain (Some s) = flat_map (distrusted_key_line domain) s.keys.items

abbrev pub distrusted_lines : DomainStatus → List ℕ
distrusted_lines s = distrusted_lines_of s.domain s.current

abbrev pub held_line : List ℕ → (count limit : ℕ) → List ℕ
held_line what count limit = codes "warning: of "
    ++ (decimal limit ++ (what ++ (codes " held: " ++ (decimal count ++ codes "\n"))))

abbrev pub full_receipts_line : (count limit : ℕ) → List ℕ
full_receipts_line count limit =
    cond (is_nearly_full count limit) (held_line (codes " receipts") count limit) []

abbrev pub full_records_line : (count limit : ℕ) → List ℕ
full_records_line count limit =
    cond (is_nearly_full count limit) (held_line (codes " records of distrust") count limit) []

abbrev pub warning_lines : Status → List ℕ
warning_lines s = flat_map keyless_line s.keyless_seeds.items
    ++ (flat_map distrusted_lines s.domains.items
    ++ (full_receipts_line s.receipts s.receipt_limit
    ++ full_records_line s.records s.record_limit))

-- ---- the whole

abbrev pub status_lines : Status → List ℕ
status_lines s = status_head s ++ (flat_map domain_status_lines s.domains.items ++ warning_lines s)
