use Rattle.std.proofs.Common.{◌≡◌, ◌++◌, drop, flat_map}
use Rattle.status_warnings.specs.Warnings.{quiet_warning}
use Rattle.status_warnings.proofs.warning_search.push_quiet.Given as goal

abbrev pub invariant-loop-peer : goal.invariant-loop-peer
invariant-loop-peer l =
    l.found.items ++ flat_map (quiet_warning l.limits l.began) (drop l.peer-index l.peers)
    ≡ l.initial.found.items ++ flat_map (quiet_warning l.limits l.began) l.peers
