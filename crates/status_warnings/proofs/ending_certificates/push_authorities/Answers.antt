use Rattle.std.proofs.Common.{refl}
use Rattle.status_warnings.specs.CertificateEnds.{IsEndOfAuthority}
use Rattle.status_warnings.proofs.PartFacts.{begun_all, begun_more}
use Rattle.status_warnings.proofs.ending_certificates.push_authorities.Goals as goal

pub loop-authority-init : goal.loop-authority-init
loop-authority-init c = λ rest are. (rest, are, refl)

pub loop-authority-preserved : goal.loop-authority-preserved
loop-authority-preserved c =
    begun_more (IsEndOfAuthority c.args.domain.now) c.args.authorities.now c.loop-authority.authority-index c.authority-item.result _ _ _
    c.loop-authority-test.true
    c.authority-item.is c.loop-authority.invariant c.in_ok-push_authority.ensures

pub returns : goal.returns
returns c =
    begun_all (IsEndOfAuthority c.args.domain.now) c.args.authorities.now c.loop-authority.authority-index _ _
    c.loop-authority-test.false c.loop-authority.invariant
