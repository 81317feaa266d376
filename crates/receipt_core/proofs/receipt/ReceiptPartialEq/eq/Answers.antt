use Rattle.std.proofs.Common.{◌∙◌, ap, sym}
use Rattle.std.specs.Cmp.{tied_itself}
use Rattle.std.specs.Ordering.{is_eq}
use Rattle.std.proofs.lemmas.Cmp.{is_eq_index}
use Rattle.receipt_core.specs.Receipt.{receipt_cmp}
use Rattle.receipt_core.specs.Order.{receipt_total}
use Rattle.receipt_core.proofs.OrderFacts.{states_same}
use Rattle.receipt_core.proofs.LineFacts.{receipt_order, one_receipt}
use Rattle.receipt_core.proofs.receipt.ReceiptPartialEq.eq.Goals as goal

pub returns-clause-lines : goal.returns-clause-lines
returns-clause-lines c =
    let order = receipt_order c.args.self.now c.args.other.now c.cmp_parts.ensures.left c.cmp_parts.ensures.right in
    c.eq.ensures ∙ sym (is_eq_index c.cmp_parts.result) ∙ ap is_eq (c.cmp_parts.ensures.order ∙ sym order)

pub returns-clause-meaning : goal.returns-clause-meaning
returns-clause-meaning c =
    let r = c.args.self.now in
    let s = c.args.other.now in
    let order = receipt_order r s c.cmp_parts.ensures.left c.cmp_parts.ensures.right in
    states_same r s c.cmp_parts.result c.eq.result c.eq.ensures
    (λ e. one_receipt r s c.cmp_parts.ensures.left c.cmp_parts.ensures.right (order ∙ sym c.cmp_parts.ensures.order ∙ e))
    (λ same. c.cmp_parts.ensures.order ∙ sym order ∙ ap (receipt_cmp r) (sym same) ∙ tied_itself receipt_total r)
