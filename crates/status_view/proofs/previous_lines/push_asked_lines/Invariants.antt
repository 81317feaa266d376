use Rattle.std.proofs.Common.{◌≡◌, ◌++◌, drop, flat_map}
use Rattle.status_view.specs.Changing.{asked_line}
use Rattle.status_view.proofs.previous_lines.push_asked_lines.Given as goal

abbrev pub invariant-loop-peer : goal.invariant-loop-peer
invariant-loop-peer l =
    l.out.items ++ flat_map asked_line (drop l.peer-index l.peers) ≡ l.initial.out.items ++ flat_map asked_line l.peers
