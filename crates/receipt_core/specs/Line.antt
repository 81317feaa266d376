-- When bytes are the line of a receipt or of a record of distrust, and when they are refused.
use Rattle.std.specs.Prelude.{◌≡◌, ℕ, ◌<◌, ◌≤◌, List, length, codes, Some}
use Rattle.hex.specs.Hex.{encode_lower}
use Rattle.serde_json.specs.Data.{Data}
use Rattle.serde_json.specs.Find.{get}
use Rattle.jwk_set.specs.Json.{IsJson}
use Rattle.jwk_set.specs.Element.{HasText}
use Rattle.bundle_doc.specs.Bundle.{Bundle, Means, Fits}
use Rattle.receipt_core.specs.Receipt.{Receipt, IsReceipt, line, IsDistrust, distrust_line}
use Rattle.receipt_core.specs.declared.distrust.Distrust.{Distrust}
use Rattle.receipt_core.specs.declared.line_error.LineError.{LineError}
use Rattle.receipt_core.specs.declared.line_error.LineError.TheVariants.{NotCanonical, TooLong}
use Rattle.receipt_core.specs.declared.line_error.LineError.TheVariants.{NoMemory}
use Rattle.byte_lines.specs.Limits.{line_limit}
use Rattle.receipt_core.specs.Limits.{receipt_line_limit}

-- the bytes are the receipt's line
pub record IsLine (bytes : List ℕ) (r : Receipt) : Type 0 where
  pub is : IsReceipt r
  pub text : bytes ≡ line r

abbrev pub IsNoLine : List ℕ → Type 0
IsNoLine bytes = (r : Receipt) → IsLine bytes r → ⊥

-- Why bytes are refused. Memory is wanted only for a line that is within the bound of receipts'
-- lines.
abbrev pub RefusesReceiptLine : List ℕ → LineError → Type 0
RefusesReceiptLine bytes TooLong = line_limit < length bytes
RefusesReceiptLine bytes NotCanonical = (length bytes ≤ line_limit) × IsNoLine bytes
RefusesReceiptLine bytes NoMemory = length bytes ≤ receipt_line_limit

-- the bytes are the record's line
pub record IsRecord (bytes : List ℕ) (x : Distrust) : Type 0 where
  pub is : IsDistrust x
  pub text : bytes ≡ distrust_line x

abbrev pub IsNoRecord : List ℕ → Type 0
IsNoRecord bytes = (x : Distrust) → IsRecord bytes x → ⊥

abbrev pub RefusesRecord : List ℕ → LineError → Type 0
RefusesRecord bytes TooLong = line_limit < length bytes
RefusesRecord bytes NotCanonical = (length bytes ≤ line_limit) × IsNoRecord bytes
RefusesRecord bytes NoMemory = length bytes ≤ 346

-- ---- what a JSON value says

abbrev pub SaysDocument : Data → Bundle → Type 0
SaysDocument tree b = (t : Data) × (get (codes "doc") tree ≡ Some t) × Means t b × Fits b

-- the members of a receipt's line, whatever other members there are
pub record SaysReceipt (tree : Data) (r : Receipt) : Type 0 where
  pub document : SaysDocument tree r.document
  pub domain : HasText tree (codes "domain") r.domain
  pub endpoint : HasText tree (codes "endpoint") r.endpoint.text
  pub key : HasText tree (codes "key") (encode_lower r.key.0)
  pub voucher : HasText tree (codes "voucher") (encode_lower r.voucher.0)
  pub is : IsReceipt r

pub record SaysDistrust (tree : Data) (x : Distrust) : Type 0 where
  pub key : HasText tree (codes "distrust") (encode_lower x.key.0)
  pub domain : HasText tree (codes "domain") x.domain
  pub is : IsDistrust x

-- the bytes are not JSON text
abbrev pub IsNoJson : List ℕ → Type 0
IsNoJson bytes = (tree : Data) → IsJson bytes tree → ⊥

-- the cause is that no line was found, and not that memory ran out
abbrev pub Unless : LineError → Type 0 → Type 0
Unless TooLong P = ⊥
Unless NotCanonical P = P
Unless NoMemory P = Unit {0}
