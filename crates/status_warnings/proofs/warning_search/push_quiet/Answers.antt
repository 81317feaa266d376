use Rattle.status_warnings.specs.Warnings.{quiet_warning}
use Rattle.status_warnings.proofs.WarningFacts.{flat_end, flat_next}
use Rattle.status_warnings.proofs.warning_search.push_quiet.Goals as goal

pub loop-peer-preserved : goal.loop-peer-preserved
loop-peer-preserved c =
    flat_next (quiet_warning c.args.limits.now c.args.began) c.args.peers.now c.loop-peer.peer-index c.peer-item.result _ _ _
    c.loop-peer-test.true
    c.peer-item.is c.loop-peer.invariant c.in_ok-push_quiet_of.ensures

pub returns : goal.returns
returns c =
    flat_end (quiet_warning c.args.limits.now c.args.began) c.args.peers.now c.loop-peer.peer-index _ _
    c.loop-peer-test.false c.loop-peer.invariant
