-- The documents that vouch for the receipts that are shown
use Rattle.std.specs.Prelude.{◌↔◌, ℕ, ◌&&◌, not, Bool, false, List, Option, Some, None}
use Rattle.std.specs.Prelude.{Contains, IsTrue}
use Rattle.std.specs.declared.cmp.Ordering.{Ordering}
use Rattle.std.specs.Ordering.{nat_cmp}
use Rattle.std.specs.Cmp.Lexicographic.{slice_cmp}
use Rattle.std.specs.BTreeSet.{BTreeSet, contains}
use Rattle.bundle_doc.specs.Bundle.{Bundle, doc_id_of}
use Rattle.bundle_doc.specs.declared.document.DocId.{DocId}
use Rattle.receipt_core.specs.Acceptance.{Meaning}
use Rattle.replica_view.specs.HeldTexts.{is_left_aside}
use Rattle.replica_view.specs.TrustGraph.{IsShownVoucher}

-- ids are ordered by their bytes
abbrev pub doc_id_cmp : DocId → DocId → Ordering
doc_id_cmp a b = slice_cmp nat_cmp a.0 b.0

-- These are their ids.
pub record AreShownVouchers (m : Meaning) (chosen : Option (List ℕ)) (ids : List DocId)
    : Type 0 where
  pub sound : (id : DocId) → Contains ids id → IsShownVoucher m chosen id.0
  pub complete : (id : DocId) → IsShownVoucher m chosen id.0 → Contains ids id

-- a set of all these
pub record IsVoucherSet (m : Meaning) (chosen : Option (List ℕ)) (vouchers : BTreeSet DocId)
    : Type 0 where
  pub exactly : (id : DocId)
      → (IsTrue (contains doc_id_cmp vouchers id) ↔ IsShownVoucher m chosen id.0)

-- the document is one of them
abbrev pub is_voucher : BTreeSet DocId → List ℕ → Bundle → Bool
is_voucher vouchers domain d = contains doc_id_cmp vouchers (record { 0 = doc_id_of domain d })

abbrev pub is_current_voucher : BTreeSet DocId → List ℕ → Option Bundle → Bool
is_current_voucher vouchers domain None = false
is_current_voucher vouchers domain (Some d) = is_voucher vouchers domain d

-- another domain is chosen, and the document is not one of them
abbrev pub is_passed : Option (List ℕ) → BTreeSet DocId → List ℕ → Bundle → Bool
is_passed chosen vouchers domain d =
    is_left_aside chosen domain && not (is_voucher vouchers domain d)
