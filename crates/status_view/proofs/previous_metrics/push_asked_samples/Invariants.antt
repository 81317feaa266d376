use Rattle.std.proofs.Common.{◌≡◌, ◌++◌, drop, flat_map}
use Rattle.status_view.specs.Changing.{asked_sample}
use Rattle.status_view.proofs.previous_metrics.push_asked_samples.Given as goal

abbrev pub invariant-loop-peer : goal.invariant-loop-peer
invariant-loop-peer l =
    l.out.items ++ flat_map asked_sample (drop l.peer-index l.peers) ≡ l.initial.out.items ++ flat_map asked_sample l.peers
