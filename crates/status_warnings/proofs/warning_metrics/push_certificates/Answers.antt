use Rattle.status_warnings.specs.WarningMetrics.{certificate_sample}
use Rattle.status_view.proofs.PieceFacts.{flat_end, flat_next}
use Rattle.status_warnings.proofs.warning_metrics.push_certificates.Goals as goal

pub loop-certificate-preserved : goal.loop-certificate-preserved
loop-certificate-preserved c =
    flat_next certificate_sample c.args.certificates.now c.loop-certificate.certificate-index c.certificate-item.result _ _ _
    c.loop-certificate-test.true
    c.certificate-item.is c.loop-certificate.invariant c.in_ok-push_certificate.ensures

pub returns : goal.returns
returns c =
    flat_end certificate_sample c.args.certificates.now c.loop-certificate.certificate-index _ _
    c.loop-certificate-test.false c.loop-certificate.invariant
