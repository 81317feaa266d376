use Rattle.status_view.specs.Changing.{previous_metrics}
use Rattle.status_view.specs.Running.{ended_gauge, fault_info, journal_gauge, receipts_counter, snapshot_gauge}
use Rattle.status_view.proofs.PieceFacts.{two}
use Rattle.status_view.proofs.running_metrics.push_running_metrics.Goals as goal

pub returns : goal.returns
returns c =
    two c.args.out.now.items
    (snapshot_gauge c.args.running.now) _ _ _ c.in_ok-push_snapshot_gauge.ensures
    (two c.push_snapshot_gauge.new.out.items
    (journal_gauge c.args.running.now) _ _ _ c.in_ok-push_journal_gauge.ensures
    (two c.push_journal_gauge.new.out.items
    (receipts_counter c.args.running.now) _ _ _ c.in_ok-push_receipts_counter.ensures
    (two c.push_receipts_counter.new.out.items
    (ended_gauge c.args.running.now) _ _ _ c.in_ok-push_ended_gauge.ensures
    (two c.push_ended_gauge.new.out.items (fault_info c.args.running.now)
    (previous_metrics c.args.running.now.peers.now c.args.running.now.previous) _ _
    c.in_ok-push_fault_info.ensures c.in_ok-push_previous_metrics.ensures))))
