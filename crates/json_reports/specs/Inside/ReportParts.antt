-- Parts of the report, as far as they are made
use Rattle.std.specs.Prelude.{◌≡◌, ℕ, List, ◌++◌}
use Rattle.receipt_core.specs.Acceptance.{Meaning}
use Rattle.closure_core.specs.AcceptedList.{IsPendingCount}
use Rattle.json_reports.specs.ReportJson.{report_counts}

-- the counts were added
pub record HasReportCounts (m : Meaning) (old new : List ℕ) : Type 0 where
  pub pending : ℕ
  pub is_pending : IsPendingCount m pending
  pub now : new ≡ old ++ report_counts m pending
