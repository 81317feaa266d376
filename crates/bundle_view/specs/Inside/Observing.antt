-- An observation as far as it is made
use Rattle.std.specs.Prelude.{◌≡◌, ℕ, List}
use Rattle.bundle_doc.specs.Bundle.{Bundle}
use Rattle.bundle_doc.specs.declared.document.DocId.{DocId}
use Rattle.receipt_core.specs.Receipt.{Receipt}
use Rattle.receipt_core.specs.Acceptance.{Meaning}
use Rattle.closure_core.specs.declared.error.TakeError.{TakeError}
use Rattle.closure_core.specs.declared.outcome.Taken.{Taken}
use Rattle.closure_core.specs.Refusals.{RefusesReceipt}
use Rattle.closure_core.specs.Changes.{HeldAndRoom, TakesOk, IsUnchanged}
use Rattle.bundle_view.specs.Conflicts.{id_in}
use Rattle.bundle_view.specs.Observe.{IsAuthentic}
use Rattle.bundle_view.specs.declared.observation.Verdict.{Verdict}
use Rattle.bundle_view.specs.declared.observe_error.ObserveError.{ObserveError}
use Rattle.bundle_view.specs.declared.observe_error.ObserveError.TheVariants.{Take}

-- the id is that of the document that makes the verdict authentic
pub record IsVoucher (m : Meaning) (domain : List ℕ) (verdict : Verdict) (id : DocId) : Type 0 where
  pub voucher : Bundle
  pub authentic : IsAuthentic m domain verdict voucher
  pub is : id ≡ id_in verdict.endpoint.domain voucher

-- The receipt was taken.
pub record HasKept (old : HeldAndRoom) (r : Receipt) (new : HeldAndRoom) : Type 0 where
  pub taken : Taken
  pub took : TakesOk old r new taken

-- It was not.
pub record HasNotKept (old : HeldAndRoom) (r : Receipt) (new : HeldAndRoom)
    (why : ObserveError) : Type 0 where
  pub error : TakeError
  pub is : why ≡ Take error
  pub cause : RefusesReceipt old.meaning old.room r error
  pub unchanged : IsUnchanged old new
