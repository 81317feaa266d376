use Rattle.status_warnings.specs.WarningJson.{warning_json}
use Rattle.status_view.proofs.PieceFacts.{parted_end, parted_next}
use Rattle.status_warnings.proofs.warning_json.push_warnings.Goals as goal

pub loop-warning-preserved : goal.loop-warning-preserved
loop-warning-preserved c =
    parted_next warning_json c.args.warnings.now c.loop-warning.warning-index c.warning-item.result c.loop-warning.later _ _ _ _
    c.loop-warning-test.true
    c.warning-item.is c.loop-warning.invariant c.in_ok-push_comma.ensures c.in_ok-push_warning.ensures

pub returns : goal.returns
returns c =
    parted_end warning_json c.args.warnings.now c.loop-warning.warning-index c.loop-warning.later _ _
    c.loop-warning-test.false c.loop-warning.invariant
