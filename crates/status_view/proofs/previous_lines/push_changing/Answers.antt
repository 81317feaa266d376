use Rattle.std.proofs.Common.{flat_map}
use Rattle.status_view.specs.Changing.{asked_line, previous_line}
use Rattle.status_view.proofs.PieceFacts.{two}
use Rattle.status_view.proofs.previous_lines.push_changing.Goals as goal

pub returns : goal.returns
returns c =
    two c.args.out.now.items
    (previous_line c.args.previous) (flat_map asked_line c.args.peers.now) _ _
    c.in_ok-push_previous.ensures c.in_ok-push_asked_lines.ensures
