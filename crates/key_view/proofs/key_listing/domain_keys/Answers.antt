use Rattle.std.proofs.Common.{sym, subst}
use Rattle.std.proofs.lemmas.List.{take_all}
use Rattle.fed_config.specs.Configuration.{AreDomains}
use Rattle.bundle_view.proofs.GroupFacts.{taken_more}
use Rattle.key_view.specs.Inside.KeysSoFar.{AreKeysOf}
use Rattle.key_view.proofs.DomainKeyFacts.{keys_all, keys_none, keys_more}
use Rattle.key_view.proofs.key_listing.domain_keys.Goals as goal

pub loop-domain-init : goal.loop-domain-init
loop-domain-init g c = keys_none _ _ c.new-all.ensures.items

pub loop-domain-preserved : goal.loop-domain-preserved
loop-domain-preserved g c =
    subst (λ domains. AreKeysOf (g.C.Closure.state c.args.closure.now).meaning domains c.push.new.self.items)
    (sym (taken_more c.domains-domain-items.result.now c.loop-domain.domain-index c.domain-item.result c.loop-domain-test.true c.domain-item.is))
    (keys_more _ _ c.domain-item.result _ _ _ c.loop-domain.invariant c.in_ok-keys_of_domain.ensures.of c.in_ok-keys_of_domain.ensures.is
    c.in_ok-push.ensures.items)

pub returns : goal.returns
returns g c =
    keys_all _ c.domains-domain-items.result.now _
    (subst (λ config. AreDomains config c.domains-domain-items.result.now) c.config.ensures.config c.domains-domain-items.ensures.all)
    (subst (λ domains. AreKeysOf (g.C.Closure.state c.args.closure.now).meaning domains c.loop-domain.all.items)
    (take_all c.loop-domain.domain-index c.domains-domain-items.result.now c.loop-domain-test.false) c.loop-domain.invariant)
