use Rattle.status_view.specs.Changing.{asked_json}
use Rattle.status_view.proofs.PieceFacts.{parted_end, parted_next}
use Rattle.status_view.proofs.previous_json.push_asked_peers.Goals as goal

pub loop-peer-preserved : goal.loop-peer-preserved
loop-peer-preserved c =
    parted_next asked_json c.args.peers.now c.loop-peer.peer-index c.peer-item.result c.loop-peer.later _ _ _ _
    c.loop-peer-test.true
    c.peer-item.is c.loop-peer.invariant c.in_ok-push_comma.ensures c.in_ok-push_asked.ensures

pub returns : goal.returns
returns c =
    parted_end asked_json c.args.peers.now c.loop-peer.peer-index c.loop-peer.later _ _
    c.loop-peer-test.false c.loop-peer.invariant
