use Rattle.std.proofs.Common.{◌++◌, ◌∙◌, ap, sym, map, append-nil}
use Rattle.std.proofs.lemmas.List.{drop_all}
use Rattle.receipt_core.specs.Receipt.{key_ids}
use Rattle.receipt_core.specs.declared.triple.Triple.{Triple}
use Rattle.status_view.specs.Status.{key_status}
use Rattle.status_view.proofs.StatusFacts.{offer_statuses}
use Rattle.status_view.proofs.current_status.key_statuses.Goals as goal

pub returns : goal.returns
returns g c =
    let records = (g.C.Closure.state c.args.closure.now).meaning.records in
    sym (append-nil c.loop-offer.keys.items)
    ∙ ap (λ rest. c.loop-offer.keys.items ++ map (λ (t : Triple). key_status records c.args.domain.now t.key) rest)
    (sym (drop_all c.loop-offer.offer-index c.deref-offer-items.result.now c.loop-offer-test.false))
    ∙ c.loop-offer.invariant
    ∙ ap (map (λ (t : Triple). key_status records c.args.domain.now t.key)) (c.deref-offer-items.ensures.value ∙ c.in_ok-offers_of.ensures)
    ∙ offer_statuses records (record { domain = c.args.domain.now; document = c.args.document.now })
    (key_ids c.args.document.now.authorities)
