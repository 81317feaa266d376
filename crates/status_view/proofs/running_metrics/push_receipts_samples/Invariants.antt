use Rattle.std.proofs.Common.{◌≡◌, ◌++◌, drop, flat_map}
use Rattle.status_view.specs.Running.{receipts_sample}
use Rattle.status_view.proofs.running_metrics.push_receipts_samples.Given as goal

abbrev pub invariant-loop-peer : goal.invariant-loop-peer
invariant-loop-peer l =
    l.out.items ++ flat_map receipts_sample (drop l.peer-index l.peers) ≡ l.initial.out.items ++ flat_map receipts_sample l.peers
