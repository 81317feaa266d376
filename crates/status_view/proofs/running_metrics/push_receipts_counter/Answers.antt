use Rattle.std.proofs.Common.{codes, flat_map}
use Rattle.status_view.specs.Running.{counter_head, receipts_name, receipts_sample}
use Rattle.status_view.proofs.PieceFacts.{two}
use Rattle.status_view.proofs.running_metrics.push_receipts_counter.Goals as goal

pub returns : goal.returns
returns c =
    two c.args.out.now.items
    (counter_head receipts_name (codes "Receipts that came from a peer and were not held."))
    (flat_map receipts_sample c.args.running.now.peers.now) _ _
    c.in_ok-push_counter_head.ensures c.in_ok-push_receipts_samples.ensures
