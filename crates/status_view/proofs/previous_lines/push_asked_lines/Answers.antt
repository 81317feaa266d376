use Rattle.status_view.specs.Changing.{asked_line}
use Rattle.status_view.proofs.PieceFacts.{flat_end, flat_next}
use Rattle.status_view.proofs.previous_lines.push_asked_lines.Goals as goal

pub loop-peer-preserved : goal.loop-peer-preserved
loop-peer-preserved c =
    flat_next asked_line c.args.peers.now c.loop-peer.peer-index c.peer-item.result _ _ _
    c.loop-peer-test.true
    c.peer-item.is c.loop-peer.invariant c.in_ok-push_asked.ensures

pub returns : goal.returns
returns c =
    flat_end asked_line c.args.peers.now c.loop-peer.peer-index _ _
    c.loop-peer-test.false c.loop-peer.invariant
