use Rattle.std.proofs.Common.{◌∙◌}
use Rattle.bundle_view.specs.Report.{accepted_line}
use Rattle.bundle_view.proofs.ReportFacts.{lines_more}
use Rattle.bundle_view.proofs.report_writer.push_accepted.Goals as goal

pub loop-listed-preserved : goal.loop-listed-preserved
loop-listed-preserved c =
    lines_more (accepted_line c.args.domain.now) c.args.documents.now c.loop-listed.listed-index c.listed-item.result
    c.loop-listed-test.true c.listed-item.is _ _
    c.in_ok-push_accepted_line.ensures
    ∙ c.loop-listed.invariant
