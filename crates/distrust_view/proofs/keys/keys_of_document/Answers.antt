use Rattle.std.proofs.Common.{◌++◌, ◌∙◌, ap, sym, map, append-nil}
use Rattle.std.proofs.lemmas.List.{drop_all}
use Rattle.receipt_core.specs.declared.triple.Triple.{Triple}
use Rattle.distrust_view.proofs.DocumentFacts.{offer_keys}
use Rattle.distrust_view.proofs.keys.keys_of_document.Goals as goal

pub returns : goal.returns
returns c =
    sym (append-nil c.loop-offer.keys.items)
    ∙ ap (λ rest. c.loop-offer.keys.items ++ map (λ (t : Triple). t.key) rest)
    (sym (drop_all c.loop-offer.offer-index c.deref-offer-items.result.now c.loop-offer-test.false))
    ∙ c.loop-offer.invariant
    ∙ ap (map (λ (t : Triple). t.key)) (c.deref-offer-items.ensures.value ∙ c.in_ok-offers_of.ensures)
    ∙ offer_keys _ _
