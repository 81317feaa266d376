use Rattle.std.proofs.Common.{codes, flat_map}
use Rattle.status_view.specs.StatusMetrics.{gauge_head}
use Rattle.status_view.proofs.PieceFacts.{two}
use Rattle.status_warnings.specs.WarningMetrics.{certificate_sample}
use Rattle.status_warnings.proofs.warning_metrics.push_certificate_metrics.Goals as goal

pub returns : goal.returns
returns c =
    two c.args.out.now.items
    (gauge_head (codes "fedbundle_certificate_not_after_timestamp_seconds") (codes "The end of a certificate that the current bundle of a trust domain has."))
    (flat_map certificate_sample c.args.certificates.now) _ _
    c.in_ok-push_gauge_head.ensures c.in_ok-push_certificates.ensures
