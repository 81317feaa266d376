-- What is kept and asked of a receipt's parts.
use Rattle.std.specs.Prelude.{◌≡◌, ℕ, List, ◌++◌, codes, Option, IfSome}
use Rattle.std.specs.declared.cmp.Ordering.{Ordering}
use Rattle.std.specs.Ordering.{nat_cmp, ordering_then}
use Rattle.std.specs.Cmp.Lexicographic.{slice_cmp}
use Rattle.hex.specs.Hex.{encode_lower}
use Rattle.bundle_doc.specs.Bundle.{canonical_text}
use Rattle.receipt_core.specs.Receipt.{Receipt, IsReceipt, receipt_id_of, need_of, offers_of}
use Rattle.receipt_core.specs.Receipt.{pair_of, key_cmp}
use Rattle.receipt_core.specs.declared.receipt_id.ReceiptId.{ReceiptId}
use Rattle.receipt_core.specs.declared.triple.Triple.{Triple}

-- a receipt in memory, with what was computed of it; its id may be left out
pub record IsKeptReceipt (r : Receipt) (id : Option ReceiptId) (need : Triple)
    (offers : List Triple) : Type 0 where
  pub is : IsReceipt r
  pub kept_id : IfSome id (λ i. i.0 ≡ receipt_id_of r)
  pub kept_need : need ≡ need_of r
  pub kept_offers : offers ≡ offers_of (pair_of r)

-- the line, piece by piece
unfoldable pub pieces : List ℕ → List ℕ → List ℕ → List ℕ → List ℕ → List ℕ
pieces document domain endpoint key voucher =
    codes "{\"doc\":" ++ (document
    ++ (codes ",\"domain\":\""
    ++ (domain ++ (codes "\",\"endpoint\":\""
    ++ (endpoint ++ (codes "\",\"key\":\""
    ++ (key ++ (codes "\",\"voucher\":\"" ++ (voucher ++ codes "\"}")))))))))

abbrev pub written_receipt : Receipt → List ℕ
written_receipt r = pieces (canonical_text r.document) r.domain r.endpoint.text
    (encode_lower r.key.0) (encode_lower r.voucher.0)

-- a record's line, piece by piece
unfoldable pub distrust_pieces : List ℕ → List ℕ → List ℕ
distrust_pieces key domain = codes "{\"distrust\":\""
    ++ (key ++ (codes "\",\"domain\":\"" ++ (domain ++ codes "\"}")))

-- the first part that differs decides
abbrev pub rest_cmp : Receipt → Receipt → Ordering
rest_cmp r s =
    ordering_then (ordering_then (slice_cmp nat_cmp r.domain s.domain)
    (slice_cmp nat_cmp r.endpoint.text s.endpoint.text))
    (ordering_then (key_cmp r.key s.key) (slice_cmp nat_cmp r.voucher.0 s.voucher.0))

abbrev pub parts_cmp : Receipt → Receipt → Ordering
parts_cmp r s = ordering_then
    (slice_cmp nat_cmp (canonical_text r.document) (canonical_text s.document)) (rest_cmp r s)
