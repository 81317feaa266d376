use Rattle.std.proofs.Common.{codes, flat_map}
use Rattle.status_view.specs.StatusMetrics.{gauge_head}
use Rattle.status_view.specs.Changing.{asked_name, asked_sample}
use Rattle.status_view.proofs.PieceFacts.{two}
use Rattle.status_view.proofs.previous_metrics.push_asked_gauge.Goals as goal

pub returns : goal.returns
returns c =
    two c.args.out.now.items
    (gauge_head asked_name (codes "Whether a peer last answered under the configuration that is changed from."))
    (flat_map asked_sample c.args.peers.now) _ _
    c.in_ok-push_gauge_head.ensures c.in_ok-push_asked_samples.ensures
