use Rattle.std.proofs.Common.{◌≡◌, ◌++◌, drop, flat_map}
use Rattle.status_view.specs.StatusMetrics.{gauge_text}
use Rattle.status_view.proofs.metrics_writer.push_gauges.Given as goal

abbrev pub invariant-loop-gauge : goal.invariant-loop-gauge
invariant-loop-gauge l =
    l.out.items ++ flat_map (gauge_text l.status) (drop l.gauge-index l.gauge-items) ≡ l.initial.out.items ++ flat_map (gauge_text l.status) l.gauge-items
