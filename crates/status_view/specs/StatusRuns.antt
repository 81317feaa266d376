-- Whether there is a warning in the status of a replica
use Rattle.std.specs.Prelude.{◌≡◌, Bool}
use Rattle.receipt_core.specs.Acceptance.{Meaning}
use Rattle.status_view.specs.declared.status.Status.{Status}
use Rattle.status_view.specs.Status.{IsStatus, has_warning}

-- whether its status has a warning
pub record IsWarned (m : Meaning) (warned : Bool) : Type 0 where
  pub status : Status
  pub is_status : IsStatus m status
  pub is : warned ≡ has_warning status
