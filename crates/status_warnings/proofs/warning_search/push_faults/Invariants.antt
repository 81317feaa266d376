use Rattle.std.proofs.Common.{◌≡◌, ◌++◌, drop, flat_map}
use Rattle.status_warnings.specs.Warnings.{warnings_of_fault}
use Rattle.status_warnings.proofs.warning_search.push_faults.Given as goal

abbrev pub invariant-loop-fault : goal.invariant-loop-fault
invariant-loop-fault l =
    l.found.items ++ flat_map (warnings_of_fault l.domains) (drop l.fault-index l.fault-items)
    ≡ l.initial.found.items ++ flat_map (warnings_of_fault l.domains) l.fault-items
