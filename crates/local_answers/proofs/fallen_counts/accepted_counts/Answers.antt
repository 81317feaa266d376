use Rattle.std.proofs.Common.{rules, subst, sym}
use Rattle.std.proofs.lemmas.List.{take_all}
use Rattle.fed_config.specs.Configuration.{AreDomains}
use Rattle.bundle_view.proofs.GroupFacts.{taken_more}
use Rattle.local_answers.proofs.FallenFacts.{CountsSoFar, counts_all, counts_begin, counts_more}
use Rattle.local_answers.proofs.fallen_counts.accepted_counts.Goals as goal

pub loop-domain-init : goal.loop-domain-init
loop-domain-init g c = counts_begin (g.C.Closure.state c.args.closure.now).meaning _ (search rules)

pub loop-domain-preserved : goal.loop-domain-preserved
loop-domain-preserved g c =
    subst (λ domains. CountsSoFar (g.C.Closure.state c.args.closure.now).meaning domains c.push.new.self.items)
    (sym (taken_more c.domains-domain-items.result.now c.loop-domain.domain-index c.domain-item.result c.loop-domain-test.true c.domain-item.is))
    (counts_more (g.C.Closure.state c.args.closure.now).meaning _ c.domain-item.result _ _ c.in_ok-counted.field-0
    c.loop-domain.invariant c.in_ok-counted.ensures.domain c.in_ok-counted.ensures.counted (search rules))

pub returns : goal.returns
returns g c =
    counts_all (g.C.Closure.state c.args.closure.now).meaning c.domains-domain-items.result.now c.loop-domain.counts.items
    (subst (λ config. AreDomains config c.domains-domain-items.result.now) c.config.ensures.config c.domains-domain-items.ensures.all)
    (subst (λ domains. CountsSoFar (g.C.Closure.state c.args.closure.now).meaning domains c.loop-domain.counts.items)
    (take_all c.loop-domain.domain-index c.domains-domain-items.result.now c.loop-domain-test.false) c.loop-domain.invariant)
