use Rattle.std.proofs.Common.{codes, decimal, false}
use Rattle.json_text.specs.JsonText.{parted_texts}
use Rattle.status_view.specs.Changing.{previous_member}
use Rattle.status_view.specs.Running.{peer_json}
use Rattle.status_view.proofs.PieceFacts.{two}
use Rattle.status_view.proofs.running_json.push_running_members.Goals as goal

pub returns : goal.returns
returns c =
    two c.args.out.now.items
    (codes ",\"snapshot_bytes\":") _ _ _ c.in_ok-extend_from_slice.ensures.items
    (two c.extend_from_slice.new.self.items
    (decimal c.args.running.now.snapshot_bytes) _ _ _ c.in_ok-push_number.ensures
    (two c.push_number.new.out.items
    (codes ",\"journal_bytes\":") _ _ _ c.in_ok-extend_from_slice-2.ensures.items
    (two c.extend_from_slice-2.new.self.items
    (decimal c.args.running.now.journal_bytes) _ _ _ c.in_ok-push_number-2.ensures
    (two c.push_number-2.new.out.items
    (codes ",\"peers\":[") _ _ _ c.in_ok-extend_from_slice-3.ensures.items
    (two c.extend_from_slice-3.new.self.items
    (parted_texts peer_json false c.args.running.now.peers.now) _ _ _ c.in_ok-push_peers.ensures
    (two c.push_peers.new.out.items (codes "]")
    (previous_member c.args.running.now.peers.now c.args.running.now.previous) _ _
    c.in_ok-extend_from_slice-4.ensures.items c.in_ok-push_previous_member.ensures))))))
