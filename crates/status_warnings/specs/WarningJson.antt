-- Warnings as a member of a JSON object. A domain's name and digits need no escape in it.
use Rattle.std.specs.Prelude.{ℕ, ℤ, List, ◌++◌, false, codes, decimal, Option, Some, None}
use Rattle.std.specs.Fmt.{signed_decimal}
use Rattle.hex.specs.Hex.{encode_lower}
use Rattle.json_text.specs.JsonText.{parted_texts, string_member}
use Rattle.status_warnings.specs.declared.warning_kinds.Stock.{Stock}
use Rattle.status_warnings.specs.declared.warning_kinds.Warning.{Warning}
use Rattle.status_warnings.specs.declared.warning_kinds.Warning.TheVariants.{Domain, Expires}
use Rattle.status_warnings.specs.declared.warning_kinds.Warning.TheVariants.{NearlyFull, NotFetched}
use Rattle.status_warnings.specs.declared.warning_kinds.Warning.TheVariants.{QuietPeer, SameKey}
use Rattle.status_warnings.specs.WarningLines.{kind_name, stock_name}

abbrev pub domain_member : List ℕ → List ℕ
domain_member domain = codes ",\"domain\":\"" ++ (domain ++ codes "\"")

abbrev pub key_members : (domain key : List ℕ) → List ℕ
key_members domain key = domain_member domain
    ++ (codes ",\"key\":\"" ++ (encode_lower key ++ codes "\""))

abbrev pub expiry_members : (domain key : List ℕ) → ℤ → List ℕ
expiry_members domain key at = domain_member domain
    ++ (codes ",\"key\":\""
    ++ (encode_lower key ++ (codes "\",\"not_after\":" ++ signed_decimal at)))

abbrev pub second_or_null : Option ℤ → List ℕ
second_or_null None = codes "null"
second_or_null (Some second) = signed_decimal second

abbrev pub fetch_members : List ℕ → Option ℤ → List ℕ
fetch_members domain fetched = domain_member domain
    ++ (codes ",\"fetched\":" ++ second_or_null fetched)

abbrev pub peer_members : List ℕ → ℕ → List ℕ
peer_members peer since = string_member (codes ",\"peer\":") peer
    ++ (codes ",\"since\":" ++ decimal since)

abbrev pub stock_members : Stock → ℕ → List ℕ
stock_members stock held = codes ",\"what\":\""
    ++ (stock_name stock ++ (codes "\",\"held\":" ++ decimal held))

abbrev pub warning_members : Warning → List ℕ
warning_members (Domain fault domain) = domain_member domain
warning_members (SameKey domain key) = key_members domain key.0
warning_members (Expires domain key at) = expiry_members domain key.0 at
warning_members (NotFetched domain fetched) = fetch_members domain fetched
warning_members (QuietPeer peer since) = peer_members peer since
warning_members (NearlyFull stock held most) = stock_members stock held

abbrev pub warning_json : Warning → List ℕ
warning_json w = codes "{\"kind\":\""
    ++ (kind_name w ++ (codes "\"" ++ (warning_members w ++ codes "}")))

-- with a comma before it
abbrev pub warning_member : List Warning → List ℕ
warning_member warnings = codes ",\"warnings\":["
    ++ (parted_texts warning_json false warnings ++ codes "]")
