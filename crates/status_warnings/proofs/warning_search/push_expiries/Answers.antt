use Rattle.status_warnings.specs.Warnings.{expiry_warning}
use Rattle.status_warnings.proofs.WarningFacts.{flat_end, flat_next}
use Rattle.status_warnings.proofs.warning_search.push_expiries.Goals as goal

pub loop-certificate-preserved : goal.loop-certificate-preserved
loop-certificate-preserved c =
    flat_next (expiry_warning c.args.limits.now) c.args.certificates.now c.loop-certificate.certificate-index c.certificate-item.result _ _ _
    c.loop-certificate-test.true
    c.certificate-item.is c.loop-certificate.invariant c.in_ok-push_expiry.ensures

pub returns : goal.returns
returns c =
    flat_end (expiry_warning c.args.limits.now) c.args.certificates.now c.loop-certificate.certificate-index _ _
    c.loop-certificate-test.false c.loop-certificate.invariant
