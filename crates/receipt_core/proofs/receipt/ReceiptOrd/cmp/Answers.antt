use Rattle.std.proofs.Common.{◌∙◌, sym}
use Rattle.receipt_core.proofs.LineFacts.{receipt_order}
use Rattle.receipt_core.proofs.receipt.ReceiptOrd.cmp.Goals as goal

pub returns : goal.returns
returns c = c.cmp_parts.ensures.order ∙ sym (receipt_order c.args.self.now c.args.other.now c.cmp_parts.ensures.left c.cmp_parts.ensures.right)
