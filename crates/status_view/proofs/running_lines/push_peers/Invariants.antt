use Rattle.std.proofs.Common.{◌≡◌, ◌++◌, drop, flat_map}
use Rattle.status_view.specs.Running.{peer_line}
use Rattle.status_view.proofs.running_lines.push_peers.Given as goal

abbrev pub invariant-loop-peer : goal.invariant-loop-peer
invariant-loop-peer l =
    l.out.items ++ flat_map peer_line (drop l.peer-index l.peers) ≡ l.initial.out.items ++ flat_map peer_line l.peers
