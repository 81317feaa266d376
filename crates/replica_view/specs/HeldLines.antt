-- A receipt and a record of distrust, as lines that an operator reads and compares. Lines are here
-- without their line feeds.
use Rattle.std.specs.Prelude.{◌≡◌, ℕ, List, ◌++◌, codes, Contains}
use Rattle.hex.specs.Hex.{encode_lower}
use Rattle.bundle_doc.specs.Bundle.{doc_id_of}
use Rattle.receipt_core.specs.declared.distrust.Distrust.{Distrust}
use Rattle.receipt_core.specs.Receipt.{Receipt, receipt_id_of}
use Rattle.receipt_core.specs.Acceptance.{Meaning, IsPending, IsReleased, distrust_of}
use Rattle.text_lines.specs.TextLines.{number_or_none}
use Rattle.replica_view.specs.declared.receipt_status.ReceiptStatus.{ReceiptStatus}
use Rattle.replica_view.specs.declared.receipt_status.ReceiptStatus.TheVariants.{Accepted, Pending}
use Rattle.replica_view.specs.declared.receipt_status.ReceiptStatus.TheVariants.{Distrusted}

-- ---- the status of a receipt

-- An accepted document vouches for it; or its key is distrusted, so that no document can; or none
-- does, and one still may.
abbrev pub IsStatusOf : Meaning → Receipt → ReceiptStatus → Type 0
IsStatusOf m r Accepted = IsReleased m r
IsStatusOf m r Pending = IsPending m r × (Contains m.records (distrust_of r.endpoint.domain r) → ⊥)
IsStatusOf m r Distrusted = Contains m.records (distrust_of r.endpoint.domain r)

abbrev pub status_text : ReceiptStatus → List ℕ
status_text Accepted = codes " accepted"
status_text Pending = codes " pending"
status_text Distrusted = codes " distrusted"

-- ---- lines

abbrev pub named_text : Receipt → List ℕ
named_text r = codes "receipt "
    ++ (encode_lower (receipt_id_of r) ++ (codes " domain " ++ r.domain))

-- which document it brought
abbrev pub brought_text : Receipt → List ℕ
brought_text r = codes " sequence " ++ (number_or_none r.document.rank
    ++ (codes " document " ++ encode_lower (doc_id_of r.domain r.document)))

-- from which endpoint, and by which key of which document
abbrev pub fetched_text : Receipt → List ℕ
fetched_text r = codes " endpoint " ++ (r.endpoint.text
    ++ (codes " key " ++ (encode_lower r.key.0
    ++ (codes " voucher " ++ encode_lower r.voucher.0))))

abbrev pub held_receipt_line : Receipt → ReceiptStatus → List ℕ
held_receipt_line r status =
    named_text r ++ (brought_text r ++ (fetched_text r ++ status_text status))

abbrev pub held_record_line : Distrust → List ℕ
held_record_line x = codes "distrust " ++ (encode_lower x.key.0 ++ (codes " domain " ++ x.domain))

-- The line is the receipt's, after the mark, and has the receipt's status.
pub record ShowsReceipt (m : Meaning) (mark : List ℕ) (r : Receipt) (line : List ℕ) : Type 0 where
  pub status : ReceiptStatus
  pub is_status : IsStatusOf m r status
  pub is : line ≡ mark ++ held_receipt_line r status

-- The line is the record's, after the mark.
abbrev pub ShowsRecord : List ℕ → Distrust → List ℕ → Type 0
ShowsRecord mark x line = line ≡ mark ++ held_record_line x
