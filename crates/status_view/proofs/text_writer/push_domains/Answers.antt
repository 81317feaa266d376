use Rattle.status_view.specs.StatusLines.{domain_status_lines}
use Rattle.status_view.proofs.PieceFacts.{flat_end, flat_next}
use Rattle.status_view.proofs.text_writer.push_domains.Goals as goal

pub loop-domain-preserved : goal.loop-domain-preserved
loop-domain-preserved c =
    flat_next domain_status_lines c.args.domains.now c.loop-domain.domain-index c.domain-item.result _ _ _
    c.loop-domain-test.true
    c.domain-item.is c.loop-domain.invariant c.in_ok-push_domain.ensures

pub returns : goal.returns
returns c =
    flat_end domain_status_lines c.args.domains.now c.loop-domain.domain-index _ _
    c.loop-domain-test.false c.loop-domain.invariant
