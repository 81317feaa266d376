use Rattle.closure_core.proofs.MemberFacts.{alike_turned}
use Rattle.bundle_view.proofs.CurrentFacts.{current_alike, one_current}
use Rattle.bundle_view.proofs.ConflictFacts.{one_stated}
use Rattle.bundle_view.proofs.ReportFacts.{one_report}
use Rattle.bundle_view.proofs.laws.one_view.Goals as goal

pub returns-clause-report : goal.returns-clause-report
returns-clause-report c one other s t alike p q = one_report one other s t alike (λ n k. c.one_number.ensures.pending one other n k alike) p q

pub returns-clause-conflicts : goal.returns-clause-conflicts
returns-clause-conflicts c = one_stated

pub returns-clause-current : goal.returns-clause-current
returns-clause-current c one other domain documents a b alike list p q =
    one_current one domain documents a b list p (current_alike other one (alike_turned one other alike) domain b q)
