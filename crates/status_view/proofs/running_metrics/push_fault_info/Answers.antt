use Rattle.std.proofs.Common.{codes, flat_map}
use Rattle.status_view.specs.StatusMetrics.{gauge_head}
use Rattle.status_view.specs.Running.{fault_name, fault_sample}
use Rattle.status_view.proofs.PieceFacts.{two}
use Rattle.status_view.proofs.running_metrics.push_fault_info.Goals as goal

pub returns : goal.returns
returns c =
    two c.args.out.now.items
    (gauge_head fault_name (codes "The fault of the last session with a peer that had one."))
    (flat_map fault_sample c.args.running.now.peers.now) _ _
    c.in_ok-push_gauge_head.ensures c.in_ok-push_fault_samples.ensures
