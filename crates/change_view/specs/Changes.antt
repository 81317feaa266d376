-- What is reported of a change, of what is held after it
use Rattle.std.specs.Prelude.{◌≡◌, ◌↔◌, List, ℕ, Bool, IsTrue, Option, Some, None}
use Rattle.bundle_doc.specs.Bundle.{Bundle, doc_id_of}
use Rattle.bundle_doc.specs.declared.document.DocId.{DocId}
use Rattle.receipt_core.specs.Acceptance.{Meaning}
use Rattle.receipt_core.specs.Receipt.{Receipt}
use Rattle.bundle_view.specs.Current.{IsCurrent}
use Rattle.change_view.specs.declared.held_change.ObservedBundle.{ObservedBundle}

-- The document is there, and it has this id as one of the domain.
abbrev pub HasDocumentId : List ℕ → DocId → Option Bundle → Type 0
HasDocumentId domain id None = ⊥
HasDocumentId domain id (Some d) = doc_id_of domain d ≡ id.0

-- The flag says whether the domain has a current document that has this id. m is what is held.
pub record SaysNow (m : Meaning) (domain : List ℕ) (id : DocId) (flag : Bool) : Type 0 where
  pub currently : Option Bundle
  pub is : IsCurrent m domain currently
  pub says : IsTrue flag ↔ HasDocumentId domain id currently

-- The parts are those of the receipt, whatever the flag says.
pub record IsObservedBundle (r : Receipt) (o : ObservedBundle) : Type 0 where
  pub domain : o.domain ≡ r.domain
  pub document : o.document.0 ≡ doc_id_of r.domain r.document
  pub sequence : o.sequence ≡ r.document.rank
  pub key : o.key ≡ r.key
  pub voucher : o.voucher ≡ r.voucher
