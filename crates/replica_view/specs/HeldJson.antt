-- What a replica holds, as one JSON object
use Rattle.std.specs.Prelude.{◌≡◌, ℕ, List, ◌++◌, codes, Option}
use Rattle.bundle_doc.specs.Bundle.{doc_id_of}
use Rattle.receipt_core.specs.declared.distrust.Distrust.{Distrust}
use Rattle.receipt_core.specs.Receipt.{Receipt, receipt_id_of}
use Rattle.receipt_core.specs.Acceptance.{Meaning}
use Rattle.json_text.specs.JsonText.{array_member, digest_member, number_member, string_member}
use Rattle.replica_view.specs.HeldLines.{IsStatusOf}
use Rattle.replica_view.specs.HeldTexts.{AreLinesFor, IsReceiptOfOther, IsRecordOfOther}
use Rattle.replica_view.specs.declared.receipt_status.ReceiptStatus.{ReceiptStatus}
use Rattle.replica_view.specs.declared.receipt_status.ReceiptStatus.TheVariants.{Accepted, Pending}
use Rattle.replica_view.specs.declared.receipt_status.ReceiptStatus.TheVariants.{Distrusted}

-- ---- a receipt

unfoldable pub named_members : Receipt → List ℕ
named_members r = digest_member (codes "{\"receipt\":") (receipt_id_of r)
    ++ string_member (codes ",\"domain\":") r.domain

-- which document it brought
unfoldable pub brought_members : Receipt → List ℕ
brought_members r = number_member (codes ",\"sequence\":") r.document.rank
    ++ digest_member (codes ",\"document\":") (doc_id_of r.domain r.document)

-- from which endpoint, and by which key of which document
unfoldable pub fetched_members : Receipt → List ℕ
fetched_members r = string_member (codes ",\"endpoint\":") r.endpoint.text
    ++ (digest_member (codes ",\"key\":") r.key.0
    ++ digest_member (codes ",\"voucher\":") r.voucher.0)

-- the brace that opens an object, and the members of the five parts
abbrev pub receipt_members : Receipt → List ℕ
receipt_members r = named_members r ++ (brought_members r ++ fetched_members r)

abbrev pub status_member : ReceiptStatus → List ℕ
status_member Accepted = codes ",\"status\":\"accepted\"}"
status_member Pending = codes ",\"status\":\"pending\"}"
status_member Distrusted = codes ",\"status\":\"distrusted\"}"

abbrev pub held_receipt_json : Receipt → ReceiptStatus → List ℕ
held_receipt_json r status = receipt_members r ++ status_member status

-- The text is the receipt's, and has the receipt's status.
pub record ShowsReceiptJson (m : Meaning) (r : Receipt) (text : List ℕ) : Type 0 where
  pub status : ReceiptStatus
  pub is_status : IsStatusOf m r status
  pub is : text ≡ held_receipt_json r status

-- ---- a record of distrust

abbrev pub held_record_json : Distrust → List ℕ
held_record_json x = digest_member (codes "{\"distrust\":") x.key.0
    ++ (string_member (codes ",\"domain\":") x.domain ++ codes "}")

abbrev pub ShowsRecordJson : Distrust → List ℕ → Type 0
ShowsRecordJson x text = text ≡ held_record_json x

-- ---- all that is held, or only what is of one domain

abbrev pub held_json : (receipts records : List (List ℕ)) → List ℕ
held_json receipts records = array_member (codes "{\"receipts\":") receipts
    ++ (array_member (codes ",\"records\":") records ++ codes "}\n")

-- the receipts and the records, each in its order, and a line feed
pub record IsHeldJson (m : Meaning) (chosen : Option (List ℕ)) (text : List ℕ) : Type 0 where
  pub receipts : List (List ℕ)
  pub each_receipt : AreLinesFor (IsReceiptOfOther chosen) (ShowsReceiptJson m) m.held receipts
  pub records : List (List ℕ)
  pub each_record : AreLinesFor (IsRecordOfOther chosen) ShowsRecordJson m.records records
  pub is : text ≡ held_json receipts records
