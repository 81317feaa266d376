use Rattle.std.proofs.Common.{◌∙◌}
use Rattle.bundle_view.specs.Conflicts.{reported_by}
use Rattle.bundle_view.specs.Report.{conflict_line}
use Rattle.bundle_view.proofs.ReportFacts.{stated_more}
use Rattle.bundle_view.proofs.report_writer.push_conflicts.Goals as goal

pub loop-conflict-preserved : goal.loop-conflict-preserved
loop-conflict-preserved c =
    stated_more reported_by conflict_line c.args.conflicts.now c.loop-conflict.conflict-index c.conflict-item.result
    c.loop-conflict-test.true c.conflict-item.is _ _ c.in_ok-push_conflict.ensures
    ∙ c.loop-conflict.invariant
