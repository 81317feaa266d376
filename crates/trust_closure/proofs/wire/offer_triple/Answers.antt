-- The label of the triple is offered.
use Rattle.std.proofs.Common.{subst}
use Rattle.std.specs.Prelude.{◌↔◌, IsTrue, Contains}
use Rattle.receipt_core.specs.declared.distrust.Distrust.{Distrust}
use Rattle.trust_closure.specs.Inside.NetOf.{IsLabelOf}
use Rattle.trust_closure.proofs.LabelIndexFacts.{offer-mirrors}
use Rattle.trust_closure.proofs.wire.offer_triple.Goals as goal

pub returns-clause-wired : goal.returns-clause-wired
returns-clause-wired c =
    let records = c.args.held.now.records in
    offer-mirrors c.args.held.now.config records c.args.label_index.now c.add_offer.new.self c.args.node
    c.label_of-label.result c.is_distrusted-distrusted.result c.args.triple.now
    (subst (λ config. IsLabelOf config c.args.triple.now c.label_of-label.result) c.config.ensures.config c.label_of-label.ensures)
    (subst (λ (x : Distrust). IsTrue c.is_distrusted-distrusted.result ↔ Contains records x)
    (λ i. record { domain = c.domain.ensures i; key = c.key.ensures i }) c.is_distrusted-distrusted.ensures)
    c.add_offer.ensures.offers
