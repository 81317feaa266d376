use Rattle.std.proofs.Common.{ap, sym, subst, map, []}
use Rattle.std.proofs.lemmas.List.{take_all}
use Rattle.fed_config.specs.Configuration.{AreDomains}
use Rattle.closure_core.specs.AcceptedList.{IsAcceptedList}
use Rattle.bundle_view.specs.Conflicts.{reported_by}
use Rattle.bundle_view.specs.Inside.Groups.{AreFoundOf}
use Rattle.bundle_view.proofs.GroupFacts.{taken_more, found_none, found_more, found_all}
use Rattle.bundle_view.proofs.conflict.conflicts.Goals as goal

pub loop-domain-init : goal.loop-domain-init
loop-domain-init g c = subst (AreFoundOf (g.C.Closure.state c.args.closure.now).meaning [])
    (ap (map reported_by) (sym c.new-found.ensures.items)) (found_none _)

pub loop-domain-preserved : goal.loop-domain-preserved
loop-domain-preserved g c =
    subst (λ domains. AreFoundOf (g.C.Closure.state c.args.closure.now).meaning domains (map reported_by c.add_conflicts.new.found.items))
    (sym (taken_more c.domains-domain-items.result.now c.loop-domain.domain-index c.domain-item.result c.loop-domain-test.true c.domain-item.is))
    (found_more _ _ c.domain-item.result c.as_slice.result.now _ _ c.loop-domain.invariant
    (subst (IsAcceptedList (g.C.Closure.state c.args.closure.now).meaning c.domain-item.result) (sym c.as_slice.ensures.value) c.in_ok-documents.ensures)
    c.in_ok-add_conflicts.ensures)

pub returns : goal.returns
returns g c =
    found_all _ c.domains-domain-items.result.now _
    (subst (λ config. AreDomains config c.domains-domain-items.result.now) c.config.ensures.config
    c.domains-domain-items.ensures.all)
    (subst (λ domains. AreFoundOf (g.C.Closure.state c.args.closure.now).meaning domains (map reported_by c.loop-domain.found.items))
    (take_all c.loop-domain.domain-index c.domains-domain-items.result.now c.loop-domain-test.false) c.loop-domain.invariant)
