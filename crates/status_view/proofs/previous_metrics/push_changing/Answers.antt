use Rattle.status_view.specs.Changing.{asked_gauge, previous_info, used_gauge}
use Rattle.status_view.proofs.PieceFacts.{two}
use Rattle.status_view.proofs.previous_metrics.push_changing.Goals as goal

pub returns : goal.returns
returns c =
    two c.args.out.now.items
    (previous_info c.args.previous) _ _ _ c.in_ok-push_previous_info.ensures
    (two c.push_previous_info.new.out.items (used_gauge c.args.previous)
    (asked_gauge c.args.peers.now) _ _ c.in_ok-push_used_gauge.ensures
    c.in_ok-push_asked_gauge.ensures)
