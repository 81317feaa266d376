use Rattle.std.proofs.Common.{codes, flat_map}
use Rattle.status_view.specs.StatusMetrics.{gauge_head}
use Rattle.status_view.specs.Running.{ended_name, ended_sample}
use Rattle.status_view.proofs.PieceFacts.{two}
use Rattle.status_view.proofs.running_metrics.push_ended_gauge.Goals as goal

pub returns : goal.returns
returns c =
    two c.args.out.now.items
    (gauge_head ended_name (codes "When the last session with a peer that ended well did so."))
    (flat_map ended_sample c.args.running.now.peers.now) _ _
    c.in_ok-push_gauge_head.ensures c.in_ok-push_ended_samples.ensures
