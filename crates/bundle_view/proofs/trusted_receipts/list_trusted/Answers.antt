-- One receipt more is taken, or is distrusted.
use Rattle.std.proofs.Common.{arith, refl, sym, ◌∙◌, subst}
use Rattle.std.specs.Prelude.{Contains}
use Rattle.std.proofs.lemmas.Bool.{both_ways}
use Rattle.receipt_core.specs.declared.distrust.Distrust.{Distrust}
use Rattle.receipt_core.specs.declared.triple.Triple.{Triple}
use Rattle.bundle_view.proofs.WaitingFacts.{AreSifted, sifted_none, sifted_takes, sifted_skips, sifted_all}
use Rattle.bundle_view.proofs.trusted_receipts.list_trusted.Goals as goal
use Rattle.receipt_core.proofs.LimitFacts.{receipt_limit-most}

pub loop-receipt-init : goal.loop-receipt-init
loop-receipt-init g c =
    sifted_none (g.C.Closure.state c.args.closure.now).meaning.records c.into_iter-receipt-iterator.result c.new-waiting.result.items
    c.new-waiting.ensures.items

pub loop-receipt-preserved-then-is_distrusted : goal.loop-receipt-preserved-then-is_distrusted
loop-receipt-preserved-then-is_distrusted g c =
    let records = (g.C.Closure.state c.args.closure.now).meaning.records in
    sifted_skips records c.into_iter-receipt-iterator.result c.loop-receipt.waiting.items
    c.loop-receipt.receipt-iterator c.next.new.self c.in-Some.receipt.now c.in-Some.ensures.steps
    c.loop-receipt.invariant
    (subst (λ (t : Triple). Contains records (record { domain = t.domain; key = t.key })) c.need-need.ensures
    (subst (λ (x : Distrust). Contains records x) (λ i. record { domain = c.domain.ensures i; key = c.key.ensures i })
    (c.is_distrusted.ensures.0 c.if-is_distrusted.true)))

pub loop-receipt-preserved : goal.loop-receipt-preserved
loop-receipt-preserved g c =
    let records = (g.C.Closure.state c.args.closure.now).meaning.records in
    subst (λ taken. AreSifted records c.into_iter-receipt-iterator.result taken c.next.new.self) (sym c.in_ok-push.ensures.items)
    (sifted_takes records c.into_iter-receipt-iterator.result c.loop-receipt.waiting.items
    c.loop-receipt.receipt-iterator c.next.new.self c.in-Some.receipt.now c.in-Some.ensures.steps
    c.loop-receipt.invariant
    (λ has. both_ways c.is_distrusted.result c.if-is_distrusted.false
    (c.is_distrusted.ensures.1
    (subst (λ (x : Distrust). Contains records x) (λ i. record { domain = sym c.domain.ensures i; key = sym c.key.ensures i })
    (subst (λ (t : Triple). Contains records (record { domain = t.domain; key = t.key }))
    (sym c.need-need.ensures) has)))))

pub returns : goal.returns
returns g c =
    let m = (g.C.Closure.state c.args.closure.now).meaning in
    sifted_all m m.records c.into_iter-receipt-iterator.result c.loop-receipt.waiting.items c.loop-receipt.receipt-iterator refl
    (c.into_iter-receipt-iterator.ensures.into_iter_gives ∙ c.receipts-receipt-items.ensures) c.in-None.ensures.steps.0
    (omega (arith, c.config-valid.ensures.valid.few, receipt_limit-most m.config)) c.loop-receipt.invariant
