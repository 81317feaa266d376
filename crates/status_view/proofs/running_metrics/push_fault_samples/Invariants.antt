use Rattle.std.proofs.Common.{◌≡◌, ◌++◌, drop, flat_map}
use Rattle.status_view.specs.Running.{fault_sample}
use Rattle.status_view.proofs.running_metrics.push_fault_samples.Given as goal

abbrev pub invariant-loop-peer : goal.invariant-loop-peer
invariant-loop-peer l =
    l.out.items ++ flat_map fault_sample (drop l.peer-index l.peers) ≡ l.initial.out.items ++ flat_map fault_sample l.peers
