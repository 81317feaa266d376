-- By which receipts a document is accepted, as one JSON object
use Rattle.std.specs.Prelude.{ℕ, List, [], ◌∷◌, ◌++◌, map, codes}
use Rattle.bundle_doc.specs.Bundle.{doc_id_of}
use Rattle.receipt_core.specs.Receipt.{Receipt, Pair}
use Rattle.json_text.specs.JsonText.{array_member, digest_member}
use Rattle.replica_view.specs.HeldJson.{receipt_members}

-- the id of the configured document from which the receipts lead
abbrev pub root_id : Pair → List Receipt → List ℕ
root_id p [] = doc_id_of p.domain p.document
root_id p (r ∷ chain) = r.voucher.0

abbrev pub chain_receipt_json : Receipt → List ℕ
chain_receipt_json r = receipt_members r ++ codes "}"

-- the ids of the document and of the configured one
unfoldable pub ends_members : (document root : List ℕ) → List ℕ
ends_members document root = digest_member (codes "{\"document\":") document
    ++ digest_member (codes ",\"configured\":") root

unfoldable pub receipts_member : List (List ℕ) → List ℕ
receipts_member receipts = array_member (codes ",\"receipts\":") receipts ++ codes "}\n"

-- and the receipts from the configured document on; an object, and a line feed
abbrev pub chain_json : Pair → List Receipt → List ℕ
chain_json p chain = ends_members (doc_id_of p.domain p.document) (root_id p chain)
    ++ receipts_member (map chain_receipt_json chain)
