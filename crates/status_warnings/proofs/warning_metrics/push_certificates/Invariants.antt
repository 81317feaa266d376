use Rattle.std.proofs.Common.{◌≡◌, ◌++◌, drop, flat_map}
use Rattle.status_warnings.specs.WarningMetrics.{certificate_sample}
use Rattle.status_warnings.proofs.warning_metrics.push_certificates.Given as goal

abbrev pub invariant-loop-certificate : goal.invariant-loop-certificate
invariant-loop-certificate l =
    l.out.items ++ flat_map certificate_sample (drop l.certificate-index l.certificates)
    ≡ l.initial.out.items ++ flat_map certificate_sample l.certificates
