use Rattle.std.proofs.Common.{◌≡◌, ◌++◌, drop, flat_map}
use Rattle.status_warnings.specs.WarningMetrics.{warning_sample}
use Rattle.status_warnings.proofs.warning_metrics.push_samples.Given as goal

abbrev pub invariant-loop-warning : goal.invariant-loop-warning
invariant-loop-warning l =
    l.out.items ++ flat_map warning_sample (drop l.warning-index l.warnings)
    ≡ l.initial.out.items ++ flat_map warning_sample l.warnings
