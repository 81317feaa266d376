use Rattle.std.proofs.Common.{◌≡◌, ◌++◌, drop, flat_map}
use Rattle.status_view.specs.StatusMetrics.{domain_sample}
use Rattle.status_view.proofs.metrics_writer.push_samples.Given as goal

abbrev pub invariant-loop-domain : goal.invariant-loop-domain
invariant-loop-domain l =
    l.out.items ++ flat_map (domain_sample l.gauge) (drop l.domain-index l.domains) ≡ l.initial.out.items ++ flat_map (domain_sample l.gauge) l.domains
