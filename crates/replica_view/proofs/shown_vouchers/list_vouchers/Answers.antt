use Rattle.std.proofs.Common.{option_copied, ap, ◌∙◌, ◌++◌, ◌∷◌, []}
use Rattle.replica_view.proofs.MadeLineFacts.{passed_as, not_passed_as}
use Rattle.replica_view.proofs.VoucherFacts.{vouchers_none, vouchers_pass, vouchers_more, vouchers_all}
use Rattle.replica_view.proofs.shown_vouchers.list_vouchers.Goals as goal

pub loop-receipt-init : goal.loop-receipt-init
loop-receipt-init g c = vouchers_none (option_copied c.args.chosen) _ _ c.new-ids.ensures.items

pub loop-receipt-preserved-then-is_left_aside : goal.loop-receipt-preserved-then-is_left_aside
loop-receipt-preserved-then-is_left_aside g c =
    vouchers_pass (option_copied c.args.chosen) c.into_iter-receipt-iterator.result c.loop-receipt.receipt-iterator c.next.new.self
    c.in-Some.receipt.now c.loop-receipt.ids.items c.in-Some.ensures.steps c.loop-receipt.invariant
    (passed_as (option_copied c.args.chosen) c.is_left_aside.result _ _ c.domain.ensures.domain c.is_left_aside.ensures c.if-is_left_aside.true)

pub loop-receipt-preserved : goal.loop-receipt-preserved
loop-receipt-preserved g c =
    vouchers_more (option_copied c.args.chosen) c.into_iter-receipt-iterator.result c.loop-receipt.receipt-iterator c.next.new.self
    c.in-Some.receipt.now c.loop-receipt.ids.items c.in-Some.ensures.steps c.loop-receipt.invariant c.push.new.self.items
    (not_passed_as (option_copied c.args.chosen) c.is_left_aside.result _ _ c.domain.ensures.domain c.is_left_aside.ensures c.if-is_left_aside.false)
    (c.in_ok-push.ensures.items ∙ ap (λ v. c.loop-receipt.ids.items ++ v ∷ []) c.voucher.ensures)

pub returns : goal.returns
returns g c =
    vouchers_all (option_copied c.args.chosen) (g.C.Closure.state c.args.closure.now).meaning _ _ _ c.in-None.ensures.steps.0
    (c.into_iter-receipt-iterator.ensures.into_iter_gives ∙ c.receipts-receipt-items.ensures) c.loop-receipt.invariant
