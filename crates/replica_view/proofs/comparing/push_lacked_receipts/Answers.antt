use Rattle.receipt_core.proofs.ChainFacts.{not_stated}
use Rattle.replica_view.proofs.MadeLineFacts.{lines_pass, lines_more}
use Rattle.replica_view.proofs.comparing.push_lacked_receipts.Goals as goal

pub loop-receipt-preserved-then-holds : goal.loop-receipt-preserved-then-holds
loop-receipt-preserved-then-holds g c =
    lines_pass _ _ c.into_iter-receipt-iterator.result c.loop-receipt.receipt-iterator c.next.new.self c.in-Some.receipt.now
    c.args.lines.now.items c.loop-receipt.lines.items c.in-Some.ensures.steps c.loop-receipt.invariant
    (c.holds.ensures.0 c.if-holds.true)

pub loop-receipt-preserved : goal.loop-receipt-preserved
loop-receipt-preserved g c =
    lines_more _ _ c.into_iter-receipt-iterator.result c.loop-receipt.receipt-iterator c.next.new.self c.in-Some.receipt.now
    c.args.lines.now.items c.loop-receipt.lines.items c.in-Some.ensures.steps c.loop-receipt.invariant c.push_receipt.new.lines.items
    (not_stated _ _ c.holds.ensures c.if-holds.false)
    c.in_ok-push_receipt.ensures
