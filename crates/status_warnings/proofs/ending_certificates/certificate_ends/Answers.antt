use Rattle.std.proofs.Common.{[], ◌++◌, ap, subst}
use Rattle.fed_config.specs.Configuration.{AreDomains}
use Rattle.status_warnings.specs.CertificateEnds.{AreEndsOf}
use Rattle.status_warnings.proofs.PartFacts.{all_begun, begun_more}
use Rattle.status_warnings.proofs.ending_certificates.certificate_ends.Goals as goal

pub loop-domain-init : goal.loop-domain-init
loop-domain-init g c = λ rest are. (rest, are, ap (λ t. t ++ rest) c.new-ends.ensures.items)

pub loop-domain-preserved : goal.loop-domain-preserved
loop-domain-preserved g c =
    begun_more (AreEndsOf (g.C.Closure.state c.args.closure.now).meaning) c.domains-domain-items.result.now c.loop-domain.domain-index
    c.domain-item.result [] _ _
    c.loop-domain-test.true
    c.domain-item.is c.loop-domain.invariant c.in_ok-push_ends.ensures

pub returns : goal.returns
returns g c = record {
  domains = c.domains-domain-items.result.now;
  are_domains =
      subst (λ config. AreDomains config c.domains-domain-items.result.now) c.config.ensures.config c.domains-domain-items.ensures.all;
  each = all_begun (AreEndsOf (g.C.Closure.state c.args.closure.now).meaning) c.domains-domain-items.result.now c.loop-domain.domain-index _
      c.loop-domain-test.false c.loop-domain.invariant;
}
