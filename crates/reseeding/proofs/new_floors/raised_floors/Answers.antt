use Rattle.std.proofs.Common.{sym, subst}
use Rattle.std.proofs.lemmas.List.{take_all}
use Rattle.fed_config.specs.Configuration.{AreDomains}
use Rattle.bundle_view.proofs.GroupFacts.{taken_more}
use Rattle.reseeding.specs.Inside.Domains.{GathersFloors}
use Rattle.reseeding.proofs.FloorFacts.{floors_none, floors_more, floors_all}
use Rattle.reseeding.proofs.new_floors.raised_floors.Goals as goal

pub loop-domain-init : goal.loop-domain-init
loop-domain-init g c = floors_none _ _ c.new-floors.ensures.items

pub loop-domain-preserved : goal.loop-domain-preserved
loop-domain-preserved g c =
    subst (λ domains. GathersFloors (g.C.Closure.state c.args.closure.now).meaning domains c.add_floor.new.floors.items)
    (sym (taken_more c.domains-domain-items.result.now c.loop-domain.domain-index c.domain-item.result c.loop-domain-test.true c.domain-item.is))
    (floors_more _ _ c.domain-item.result _ _ c.loop-domain.invariant c.in_ok-add_floor.ensures)

pub returns : goal.returns
returns g c =
    floors_all _ c.domains-domain-items.result.now _
    (subst (λ config. AreDomains config c.domains-domain-items.result.now) c.config.ensures.config
    c.domains-domain-items.ensures.all)
    (subst (λ domains. GathersFloors (g.C.Closure.state c.args.closure.now).meaning domains c.loop-domain.floors.items)
    (take_all c.loop-domain.domain-index c.domains-domain-items.result.now c.loop-domain-test.false) c.loop-domain.invariant)
