use Rattle.std.proofs.Common.{◌++◌, ◌∙◌, ap, sym, map, append-nil}
use Rattle.receipt_core.specs.Receipt.{Pair, offer_of, key_ids}
use Rattle.receipt_core.proofs.KeyIdFacts.{offers_more}
use Rattle.receipt_core.proofs.offers.offers_with.Goals as goal

pub loop-key-init : goal.loop-key-init
loop-key-init c =
    ap (λ x. x ++ map (offer_of (record { domain = c.args.domain.now; document = c.args.document.now }))
    c.into_iter-key-iterator.result) c.in_ok-offers.ensures.items

pub loop-key-preserved : goal.loop-key-preserved
loop-key-preserved c =
    let p : Pair = record { domain = c.args.domain.now; document = c.args.document.now } in
    offers_more p c.in-Some.key c.in_ok-of_key.field-0 c.loop-key.key-iterator c.next.new.self c.loop-key.offers.items c.push.new.self.items
    (map (offer_of p) c.into_iter-key-iterator.result) c.in-Some.ensures.steps
    (c.in_ok-of_key.ensures
    ∙ (λ i. record { domain = (c.in_ok-origin.ensures i).domain; document = (c.in_ok-origin.ensures i).document; key = c.in-Some.key })
    ∙ (λ i. record { domain = c.args.domain.now; document = record { 0 = c.in_ok-id.ensures i }; key = c.in-Some.key }))
    c.in_ok-push.ensures.items c.loop-key.invariant

pub returns : goal.returns
returns c =
    let p : Pair = record { domain = c.args.domain.now; document = c.args.document.now } in
    sym (append-nil c.loop-key.offers.items)
    ∙ ap (λ x. c.loop-key.offers.items ++ map (offer_of p) x) (sym c.in-None.ensures.steps.0)
    ∙ c.loop-key.invariant
    ∙ ap (map (offer_of p)) (c.into_iter-key-iterator.ensures.into_iter_gives.0 ∙ c.in_ok-keys.ensures ∙ ap key_ids c.authorities.ensures)
