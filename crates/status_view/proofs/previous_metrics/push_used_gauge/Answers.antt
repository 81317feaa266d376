use Rattle.std.proofs.Common.{codes}
use Rattle.status_view.specs.StatusMetrics.{gauge_head}
use Rattle.status_view.specs.Changing.{used_sample}
use Rattle.status_view.proofs.PieceFacts.{two}
use Rattle.status_view.proofs.previous_metrics.push_used_gauge.Goals as goal

pub returns : goal.returns
returns c =
    two c.args.out.now.items
    (gauge_head (codes "fedbundle_previous_config_used_timestamp_seconds")
    (codes "When a session under the configuration that is changed from was last answered."))
    (used_sample c.args.previous.used) _ _
    c.in_ok-push_gauge_head.ensures c.in_ok-push_used_sample.ensures
