use Rattle.std.proofs.Common.{codes, flat_map}
use Rattle.status_view.specs.StatusMetrics.{gauge_head}
use Rattle.status_view.proofs.PieceFacts.{two}
use Rattle.status_warnings.specs.WarningMetrics.{warning_sample}
use Rattle.status_warnings.proofs.warning_metrics.push_warning_metrics.Goals as goal

pub returns : goal.returns
returns c =
    two c.args.out.now.items
    (gauge_head (codes "fedbundle_warning_info") (codes "What status warns of, by kind."))
    (flat_map warning_sample c.args.warnings.now) _ _
    c.in_ok-push_gauge_head.ensures c.in_ok-push_samples.ensures
