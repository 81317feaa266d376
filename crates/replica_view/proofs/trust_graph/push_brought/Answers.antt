use Rattle.std.proofs.Common.{option_copied}
use Rattle.replica_view.proofs.MadeLineFacts.{lines_pass, lines_more}
use Rattle.replica_view.proofs.VoucherFacts.{document_passed, document_shown}
use Rattle.replica_view.proofs.trust_graph.push_brought.Goals as goal

pub loop-receipt-preserved-then-is_receipt_passed : goal.loop-receipt-preserved-then-is_receipt_passed
loop-receipt-preserved-then-is_receipt_passed g c =
    lines_pass _ _ c.into_iter-receipt-iterator.result c.loop-receipt.receipt-iterator c.next.new.self c.in-Some.receipt.now
    c.args.lines.now.items c.loop-receipt.lines.items c.in-Some.ensures.steps c.loop-receipt.invariant
    (document_passed (g.C.Closure.state c.args.closure.now).meaning (option_copied c.args.chosen) c.args.vouchers.now c.requires
    c.is_receipt_passed.result _ _ c.is_receipt_passed.ensures c.if-is_receipt_passed.true)

pub loop-receipt-preserved : goal.loop-receipt-preserved
loop-receipt-preserved g c =
    lines_more _ _ c.into_iter-receipt-iterator.result c.loop-receipt.receipt-iterator c.next.new.self c.in-Some.receipt.now
    c.args.lines.now.items c.loop-receipt.lines.items c.in-Some.ensures.steps c.loop-receipt.invariant c.push_brought_line.new.lines.items
    (document_shown (g.C.Closure.state c.args.closure.now).meaning (option_copied c.args.chosen) c.args.vouchers.now c.requires
    c.is_receipt_passed.result _ _ c.is_receipt_passed.ensures c.if-is_receipt_passed.false)
    c.in_ok-push_brought_line.ensures
