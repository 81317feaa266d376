use Rattle.std.proofs.Common.{arith}
use Rattle.cert_key.proofs.CertificateFacts.{is_found, is_only}
use Rattle.cert_key.proofs.certificate.read_certificate.Goals as goal

pub returns-clause-found : goal.returns-clause-found
returns-clause-found c =
    is_found c.args.der.now c.certificate_at.result (λ i. omega (arith, c.type_inv.der i)) c.certificate_at.ensures

pub returns-clause-only : goal.returns-clause-only
returns-clause-only c = λ certificate spelled.
    is_only c.args.der.now c.certificate_at.result certificate spelled c.certificate_at.ensures
