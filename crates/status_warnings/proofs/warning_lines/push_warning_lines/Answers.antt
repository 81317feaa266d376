use Rattle.status_warnings.specs.WarningLines.{warning_line}
use Rattle.status_view.proofs.PieceFacts.{flat_end, flat_next}
use Rattle.status_warnings.proofs.warning_lines.push_warning_lines.Goals as goal

pub loop-warning-preserved : goal.loop-warning-preserved
loop-warning-preserved c =
    flat_next warning_line c.args.warnings.now c.loop-warning.warning-index c.warning-item.result _ _ _
    c.loop-warning-test.true
    c.warning-item.is c.loop-warning.invariant c.in_ok-push_warning_line.ensures

pub returns : goal.returns
returns c =
    flat_end warning_line c.args.warnings.now c.loop-warning.warning-index _ _
    c.loop-warning-test.false c.loop-warning.invariant
