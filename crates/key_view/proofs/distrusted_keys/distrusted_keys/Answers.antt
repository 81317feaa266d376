use Rattle.std.proofs.Common.{refl, subst, ◌∙◌}
use Rattle.key_view.specs.KnownKeys.{keys_of_documents, known_keys, with_keys_of_receipt, with_keys_of_receipts}
use Rattle.key_view.specs.Inside.Distrusted.{FindsDistrusted}
use Rattle.key_view.proofs.DistrustedFacts.{leads_end, leads_next}
use Rattle.key_view.proofs.distrusted_keys.distrusted_keys.Goals as goal

pub loop-receipt-init : goal.loop-receipt-init
loop-receipt-init g c = λ new adds.
    subst (λ held. FindsDistrusted c.args.domain.now (g.C.Closure.state c.args.closure.now).meaning.records
    (known_keys held c.args.domain.now c.args.accepted.now) new)
    (c.into_iter-receipt-iterator.ensures.into_iter_gives ∙ c.receipts-receipt-items.ensures)
    (adds (keys_of_documents c.args.accepted.now) c.in_ok-found.ensures)

pub loop-receipt-preserved : goal.loop-receipt-preserved
loop-receipt-preserved g c =
    leads_next c.args.domain.now (g.C.Closure.state c.args.closure.now).meaning.records (with_keys_of_receipts c.args.domain.now)
    (with_keys_of_receipt c.args.domain.now) (λ ks r rs. refl) c.in-Some.receipt.now c.loop-receipt.receipt-iterator c.next.new.self _ _ _
    c.in-Some.ensures.steps c.loop-receipt.invariant c.in_ok-add_receipt.ensures

pub returns : goal.returns
returns g c =
    leads_end c.args.domain.now (g.C.Closure.state c.args.closure.now).meaning.records (with_keys_of_receipts c.args.domain.now) (λ ks. refl)
    c.loop-receipt.receipt-iterator _ _ c.in-None.ensures.steps.0 c.loop-receipt.invariant
