use Rattle.std.proofs.Common.{codes, decimal, flat_map}
use Rattle.status_view.specs.Changing.{previous_lines}
use Rattle.status_view.specs.Running.{peer_line}
use Rattle.status_view.proofs.PieceFacts.{two}
use Rattle.status_view.proofs.running_lines.push_running_lines.Goals as goal

pub returns : goal.returns
returns c =
    two c.args.out.now.items
    (codes "snapshot ") _ _ _ c.in_ok-extend_from_slice.ensures.items
    (two c.extend_from_slice.new.self.items
    (decimal c.args.running.now.snapshot_bytes) _ _ _ c.in_ok-push_number.ensures
    (two c.push_number.new.out.items
    (codes " bytes\njournal ") _ _ _ c.in_ok-extend_from_slice-2.ensures.items
    (two c.extend_from_slice-2.new.self.items
    (decimal c.args.running.now.journal_bytes) _ _ _ c.in_ok-push_number-2.ensures
    (two c.push_number-2.new.out.items
    (codes " bytes\n") _ _ _ c.in_ok-extend_from_slice-3.ensures.items
    (two c.extend_from_slice-3.new.self.items (flat_map peer_line c.args.running.now.peers.now)
    (previous_lines c.args.running.now.peers.now c.args.running.now.previous) _ _
    c.in_ok-push_peers.ensures c.in_ok-push_previous_lines.ensures)))))
