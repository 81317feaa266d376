use Rattle.status_view.specs.Running.{peer_line}
use Rattle.status_view.proofs.PieceFacts.{flat_end, flat_next}
use Rattle.status_view.proofs.running_lines.push_peers.Goals as goal

pub loop-peer-preserved : goal.loop-peer-preserved
loop-peer-preserved c =
    flat_next peer_line c.args.peers.now c.loop-peer.peer-index c.peer-item.result _ _ _
    c.loop-peer-test.true
    c.peer-item.is c.loop-peer.invariant c.in_ok-push_peer.ensures

pub returns : goal.returns
returns c =
    flat_end peer_line c.args.peers.now c.loop-peer.peer-index _ _
    c.loop-peer-test.false c.loop-peer.invariant
