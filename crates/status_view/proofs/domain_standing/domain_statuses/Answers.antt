use Rattle.std.proofs.Common.{sym, subst, map}
use Rattle.std.proofs.lemmas.List.{take_all}
use Rattle.fed_config.specs.Configuration.{AreDomains}
use Rattle.bundle_view.specs.Conflicts.{reported_by}
use Rattle.bundle_view.proofs.GroupFacts.{taken_more}
use Rattle.status_view.specs.Inside.DomainsSoFar.{AreStatusesOf}
use Rattle.status_view.proofs.StatusFacts.{statuses_all, statuses_none, statuses_more}
use Rattle.status_view.proofs.domain_standing.domain_statuses.Goals as goal

pub loop-domain-init : goal.loop-domain-init
loop-domain-init g c = statuses_none _ _ _ c.new-statuses.ensures.items

pub loop-domain-preserved : goal.loop-domain-preserved
loop-domain-preserved g c =
    subst (λ domains. AreStatusesOf (g.C.Closure.state c.args.closure.now).meaning (map reported_by c.args.clashes.now) domains c.push.new.self.items)
    (sym (taken_more c.domains-domain-items.result.now c.loop-domain.domain-index c.domain-item.result c.loop-domain-test.true c.domain-item.is))
    (statuses_more _ _ _ c.domain-item.result _ _ _ c.loop-domain.invariant c.in_ok-domain_status.ensures.of c.in_ok-domain_status.ensures.is
    c.in_ok-push.ensures.items)

pub returns : goal.returns
returns g c =
    statuses_all _ _ c.domains-domain-items.result.now _
    (subst (λ config. AreDomains config c.domains-domain-items.result.now) c.config.ensures.config c.domains-domain-items.ensures.all)
    (subst (λ domains. AreStatusesOf (g.C.Closure.state c.args.closure.now).meaning (map reported_by c.args.clashes.now) domains
    c.loop-domain.statuses.items)
    (take_all c.loop-domain.domain-index c.domains-domain-items.result.now c.loop-domain-test.false) c.loop-domain.invariant)
