use Rattle.status_warnings.specs.Warnings.{domain_warning}
use Rattle.status_warnings.proofs.WarningFacts.{flat_end, flat_next}
use Rattle.status_warnings.proofs.warning_search.push_fault.Goals as goal

pub loop-domain-preserved : goal.loop-domain-preserved
loop-domain-preserved c =
    flat_next (domain_warning c.args.fault) c.args.domains.now c.loop-domain.domain-index c.domain-item.result _ _ _
    c.loop-domain-test.true
    c.domain-item.is c.loop-domain.invariant c.in_ok-push_fault_of.ensures

pub returns : goal.returns
returns c =
    flat_end (domain_warning c.args.fault) c.args.domains.now c.loop-domain.domain-index _ _
    c.loop-domain-test.false c.loop-domain.invariant
