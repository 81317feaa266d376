use Rattle.std.proofs.Common.{sym, subst}
use Rattle.std.proofs.lemmas.List.{take_all}
use Rattle.fed_config.specs.Configuration.{AreDomains}
use Rattle.bundle_view.proofs.GroupFacts.{taken_more}
use Rattle.distrust_view.specs.DistrustEffect.{distrust_change}
use Rattle.distrust_view.specs.Inside.Effects.{HasEffects}
use Rattle.distrust_view.proofs.EffectFacts.{effects_none, effects_more}
use Rattle.distrust_view.proofs.effect.effects_text.Goals as goal

pub loop-domain-init : goal.loop-domain-init
loop-domain-init g c = effects_none _ _ c.new-out.ensures.items

pub loop-domain-preserved : goal.loop-domain-preserved
loop-domain-preserved g c =
    subst (λ domains. HasEffects
    (distrust_change (g.C.Closure.state c.args.before.now).meaning (g.C.Closure.state c.args.after.now).meaning c.args.given.now)
    domains c.push_effect.new.out.items)
    (sym (taken_more c.domains-domain-items.result.now c.loop-domain.domain-index c.domain-item.result c.loop-domain-test.true c.domain-item.is))
    (effects_more _ _ c.domain-item.result _ _ c.loop-domain.invariant c.in_ok-push_effect.ensures)

pub returns : goal.returns
returns g c = record {
  domains = c.domains-domain-items.result.now;
  are_domains = subst (λ config. AreDomains config c.domains-domain-items.result.now) c.config.ensures.config
      c.domains-domain-items.ensures.all;
  has = subst (λ domains. HasEffects
      (distrust_change (g.C.Closure.state c.args.before.now).meaning (g.C.Closure.state c.args.after.now).meaning c.args.given.now)
      domains c.loop-domain.out.items)
      (take_all c.loop-domain.domain-index c.domains-domain-items.result.now c.loop-domain-test.false) c.loop-domain.invariant;
}
