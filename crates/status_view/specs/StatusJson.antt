-- A status as compact JSON. A domain's name and digits need no escape in it.
use Rattle.std.specs.Prelude.{ℕ, List, ◌++◌, false, codes, decimal, Option, Some, None}
use Rattle.hex.specs.Hex.{encode_lower}
use Rattle.json_text.specs.JsonText.{number_or_null, parted_texts, true_or_false}
use Rattle.status_view.specs.declared.status.Status.{Status}
use Rattle.status_view.specs.declared.status.DomainStatus.{DomainStatus}
use Rattle.status_view.specs.declared.status.CurrentStatus.{CurrentStatus}
use Rattle.status_view.specs.declared.status.KeyStatus.{KeyStatus}
use Rattle.status_view.specs.declared.status.KeylessSeed.{KeylessSeed}
use Rattle.status_view.specs.Status.{has_warning}

abbrev pub key_json : KeyStatus → List ℕ
key_json k = codes "{\"id\":\""
    ++ (encode_lower k.key.0
    ++ (codes "\",\"distrusted\":" ++ (true_or_false k.is_distrusted ++ codes "}")))

abbrev pub json_reports : CurrentStatus → List ℕ
json_reports s = codes "{\"id\":\""
    ++ (encode_lower s.id.0
    ++ (codes "\",\"sequence\":"
    ++ (number_or_null s.sequence
    ++ (codes ",\"refresh_hint\":"
    ++ (number_or_null s.refresh_hint
    ++ (codes ",\"keys\":[" ++ (parted_texts key_json false s.keys.items ++ codes "]}")))))))

abbrev pub current_json : Option CurrentStatus → List ℕ
current_json None = codes "null"
current_json (Some s) = json_reports s

abbrev pub domain_json : DomainStatus → List ℕ
domain_json s = codes "{\"domain\":\""
    ++ (s.domain
    ++ (codes "\",\"current\":"
    ++ (current_json s.current
    ++ (codes ",\"accepted\":"
    ++ (decimal s.accepted
    ++ (codes ",\"conflicts\":" ++ (decimal s.conflicts ++ codes "}")))))))

abbrev pub keyless_json : KeylessSeed → List ℕ
keyless_json s = codes "{\"domain\":\""
    ++ (s.domain ++ (codes "\",\"id\":\"" ++ (encode_lower s.id.0 ++ codes "\"}")))

-- what is held
abbrev pub counts_json : Status → List ℕ
counts_json s = codes "\"config\":\""
    ++ (encode_lower s.config.0
    ++ (codes "\",\"receipts\":"
    ++ (decimal s.receipts
    ++ (codes ",\"receipt_limit\":"
    ++ (decimal s.receipt_limit
    ++ (codes ",\"pending\":"
    ++ (decimal s.pending
    ++ (codes ",\"record_limit\":"
    ++ (decimal s.record_limit ++ (codes ",\"records\":" ++ decimal s.records))))))))))

-- the members, without the braces around them
abbrev pub status_members : Status → List ℕ
status_members s = counts_json s
    ++ (codes ",\"domains\":["
    ++ (parted_texts domain_json false s.domains.items
    ++ (codes "],\"keyless_seeds\":["
    ++ (parted_texts keyless_json false s.keyless_seeds.items
    ++ (codes "],\"warning\":" ++ true_or_false (has_warning s))))))
