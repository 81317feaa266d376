-- Warnings as lines for operators
use Rattle.std.specs.Prelude.{ℕ, ℤ, List, ◌++◌, codes, decimal, flat_map, Option, Some, None}
use Rattle.std.specs.Fmt.{signed_decimal}
use Rattle.hex.specs.Hex.{encode_lower}
use Rattle.status_warnings.specs.declared.warning_kinds.DomainFault.{DomainFault}
use Rattle.status_warnings.specs.declared.warning_kinds.DomainFault.TheVariants.{NoCurrent}
use Rattle.status_warnings.specs.declared.warning_kinds.DomainFault.TheVariants.{LockedOut}
use Rattle.status_warnings.specs.declared.warning_kinds.DomainFault.TheVariants.{Conflict}
use Rattle.status_warnings.specs.declared.warning_kinds.DomainFault.TheVariants.{NoSequence}
use Rattle.status_warnings.specs.declared.warning_kinds.Stock.{Stock}
use Rattle.status_warnings.specs.declared.warning_kinds.Stock.TheVariants.{Receipts, Records}
use Rattle.status_warnings.specs.declared.warning_kinds.Warning.{Warning}
use Rattle.status_warnings.specs.declared.warning_kinds.Warning.TheVariants.{Domain, Expires}
use Rattle.status_warnings.specs.declared.warning_kinds.Warning.TheVariants.{NearlyFull, NotFetched}
use Rattle.status_warnings.specs.declared.warning_kinds.Warning.TheVariants.{QuietPeer, SameKey}

-- ---- names, in each of the texts

abbrev pub kind_of_fault : DomainFault → List ℕ
kind_of_fault NoCurrent = codes "no-current"
kind_of_fault LockedOut = codes "locked-out"
kind_of_fault Conflict = codes "conflict"
kind_of_fault NoSequence = codes "no-sequence"

abbrev pub kind_name : Warning → List ℕ
kind_name (Domain fault domain) = kind_of_fault fault
kind_name (SameKey domain key) = codes "same-key"
kind_name (Expires domain key at) = codes "expires"
kind_name (NotFetched domain fetched) = codes "not-fetched"
kind_name (QuietPeer peer since) = codes "quiet-peer"
kind_name (NearlyFull stock held most) = codes "nearly-full"

abbrev pub stock_name : Stock → List ℕ
stock_name Receipts = codes "receipts"
stock_name Records = codes "records"

-- ---- lines

abbrev pub fault_words : DomainFault → List ℕ
fault_words NoCurrent = codes " has no current bundle"
fault_words LockedOut = codes " has no trusted X.509 authority in its current bundle"
fault_words Conflict = codes " has several accepted bundles with one sequence number"
fault_words NoSequence = codes " has several accepted bundles, and the current has no number"

abbrev pub domain_words : DomainFault → List ℕ → List ℕ
domain_words fault domain = domain ++ fault_words fault

abbrev pub same_key_words : (domain key : List ℕ) → List ℕ
same_key_words domain key = domain
    ++ (codes " accepts key "
    ++ (encode_lower key ++ codes ", which has the public key of a distrusted key"))

abbrev pub expiry_words : (domain key : List ℕ) → ℤ → List ℕ
expiry_words domain key at = domain
    ++ (codes " has a certificate that ends at "
    ++ (signed_decimal at ++ (codes ", of key " ++ encode_lower key)))

-- the second, or `never`
abbrev pub second_or_never : Option ℤ → List ℕ
second_or_never None = codes "never"
second_or_never (Some second) = signed_decimal second

abbrev pub fetch_words : List ℕ → Option ℤ → List ℕ
fetch_words domain fetched = domain ++ (codes " was last fetched: " ++ second_or_never fetched)

abbrev pub peer_words : List ℕ → ℕ → List ℕ
peer_words peer since = peer ++ (codes " had no session that ended well since " ++ decimal since)

abbrev pub held_words : Stock → List ℕ
held_words Receipts = codes " receipts are held"
held_words Records = codes " records of distrust are held"

abbrev pub stock_words : Stock → (held most : ℕ) → List ℕ
stock_words stock held most = decimal held
    ++ (codes " of " ++ (decimal most ++ held_words stock))

abbrev pub warning_words : Warning → List ℕ
warning_words (Domain fault domain) = domain_words fault domain
warning_words (SameKey domain key) = same_key_words domain key.0
warning_words (Expires domain key at) = expiry_words domain key.0 at
warning_words (NotFetched domain fetched) = fetch_words domain fetched
warning_words (QuietPeer peer since) = peer_words peer since
warning_words (NearlyFull stock held most) = stock_words stock held most

abbrev pub warning_line : Warning → List ℕ
warning_line w = codes "warning: "
    ++ (kind_name w ++ (codes ": " ++ (warning_words w ++ codes "\n")))

abbrev pub lines_of_warnings : List Warning → List ℕ
lines_of_warnings warnings = flat_map warning_line warnings
