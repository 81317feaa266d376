use Rattle.std.proofs.Common.{sym, subst, option_copied}
use Rattle.std.proofs.lemmas.List.{take_all}
use Rattle.fed_config.specs.Configuration.{AreDomains}
use Rattle.bundle_view.proofs.GroupFacts.{taken_more}
use Rattle.reseeding.specs.Inside.Domains.{HasRefusals}
use Rattle.reseeding.proofs.DomainsFacts.{refusals_none, refusals_more, refusals_all}
use Rattle.reseeding.proofs.refusals.refusal_text.Goals as goal

pub loop-domain-init : goal.loop-domain-init
loop-domain-init g c = refusals_none _ _ _ c.new-out.ensures.items

pub loop-domain-preserved : goal.loop-domain-preserved
loop-domain-preserved g c =
    subst (λ domains. HasRefusals (g.C.Closure.state c.args.closure.now).meaning (option_copied c.args.allowed) domains c.push_refusal.new.out.items)
    (sym (taken_more c.domains-domain-items.result.now c.loop-domain.domain-index c.domain-item.result c.loop-domain-test.true c.domain-item.is))
    (refusals_more _ _ _ c.domain-item.result _ _ c.loop-domain.invariant c.in_ok-push_refusal.ensures)

pub returns : goal.returns
returns g c =
    refusals_all _ _ c.domains-domain-items.result.now _
    (subst (λ config. AreDomains config c.domains-domain-items.result.now) c.config.ensures.config
    c.domains-domain-items.ensures.all)
    (subst (λ domains. HasRefusals (g.C.Closure.state c.args.closure.now).meaning (option_copied c.args.allowed) domains c.loop-domain.out.items)
    (take_all c.loop-domain.domain-index c.domains-domain-items.result.now c.loop-domain-test.false) c.loop-domain.invariant)
