use Rattle.std.proofs.Common.{sym, subst}
use Rattle.std.proofs.lemmas.List.{take_all}
use Rattle.fed_config.specs.Configuration.{AreDomains}
use Rattle.replica_view.specs.Inside.Offered.{AreOffersFrom}
use Rattle.replica_view.proofs.OfferFacts.{offers_none, offers_more, offers_all, taken_domain}
use Rattle.replica_view.proofs.offered.list_offers.Goals as goal

pub loop-domain-init : goal.loop-domain-init
loop-domain-init g c = offers_none _ _ c.new-offers.ensures.items

pub loop-domain-preserved : goal.loop-domain-preserved
loop-domain-preserved g c =
    subst (λ domains. AreOffersFrom (g.C.Closure.state c.args.closure.now).meaning domains c.push_offers.new.offers.items)
    (sym (taken_domain c.domains-domain-items.result.now c.loop-domain.domain-index c.domain-item.result c.loop-domain-test.true c.domain-item.is))
    (offers_more _ _ c.domain-item.result _ _ c.loop-domain.invariant c.in_ok-push_offers.ensures)

pub returns : goal.returns
returns g c =
    offers_all _ c.domains-domain-items.result.now _
    (subst (λ config. AreDomains config c.domains-domain-items.result.now) c.config.ensures.config
    c.domains-domain-items.ensures.all)
    (subst (λ domains. AreOffersFrom (g.C.Closure.state c.args.closure.now).meaning domains c.loop-domain.offers.items)
    (take_all c.loop-domain.domain-index c.domains-domain-items.result.now c.loop-domain-test.false) c.loop-domain.invariant)
