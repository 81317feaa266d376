use Rattle.std.proofs.Common.{◌≡◌, ◌++◌, drop, flat_map}
use Rattle.status_view.specs.Running.{ended_sample}
use Rattle.status_view.proofs.running_metrics.push_ended_samples.Given as goal

abbrev pub invariant-loop-peer : goal.invariant-loop-peer
invariant-loop-peer l =
    l.out.items ++ flat_map ended_sample (drop l.peer-index l.peers) ≡ l.initial.out.items ++ flat_map ended_sample l.peers
