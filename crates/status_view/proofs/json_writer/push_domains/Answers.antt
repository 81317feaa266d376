use Rattle.status_view.specs.StatusJson.{domain_json}
use Rattle.status_view.proofs.PieceFacts.{parted_end, parted_next}
use Rattle.status_view.proofs.json_writer.push_domains.Goals as goal

pub loop-domain-preserved : goal.loop-domain-preserved
loop-domain-preserved c =
    parted_next domain_json c.args.domains.now c.loop-domain.domain-index c.domain-item.result c.loop-domain.later _ _ _ _
    c.loop-domain-test.true
    c.domain-item.is c.loop-domain.invariant c.in_ok-push_comma.ensures c.in_ok-push_domain.ensures

pub returns : goal.returns
returns c =
    parted_end domain_json c.args.domains.now c.loop-domain.domain-index c.loop-domain.later _ _
    c.loop-domain-test.false c.loop-domain.invariant
