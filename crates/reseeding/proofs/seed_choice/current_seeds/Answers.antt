use Rattle.std.proofs.Common.{sym, subst}
use Rattle.std.proofs.lemmas.List.{take_all}
use Rattle.fed_config.specs.Configuration.{AreDomains}
use Rattle.bundle_view.proofs.GroupFacts.{taken_more}
use Rattle.reseeding.specs.Inside.Domains.{HasSeeds}
use Rattle.reseeding.proofs.DomainsFacts.{seeds_none, seeds_more, seeds_all}
use Rattle.reseeding.proofs.seed_choice.current_seeds.Goals as goal

pub loop-domain-init : goal.loop-domain-init
loop-domain-init g c = seeds_none _ _ c.new-seeds.ensures.items

pub loop-domain-preserved : goal.loop-domain-preserved
loop-domain-preserved g c =
    subst (λ domains. HasSeeds (g.C.Closure.state c.args.closure.now).meaning domains c.add_seed.new.seeds.items)
    (sym (taken_more c.domains-domain-items.result.now c.loop-domain.domain-index c.domain-item.result c.loop-domain-test.true c.domain-item.is))
    (seeds_more _ _ c.domain-item.result _ _ c.loop-domain.invariant c.in_ok-add_seed.ensures)

pub returns : goal.returns
returns g c =
    seeds_all _ c.domains-domain-items.result.now _
    (subst (λ config. AreDomains config c.domains-domain-items.result.now) c.config.ensures.config
    c.domains-domain-items.ensures.all)
    (subst (λ domains. HasSeeds (g.C.Closure.state c.args.closure.now).meaning domains c.loop-domain.seeds.items)
    (take_all c.loop-domain.domain-index c.domains-domain-items.result.now c.loop-domain-test.false) c.loop-domain.invariant)
