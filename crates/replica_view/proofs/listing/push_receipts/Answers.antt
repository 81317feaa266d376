use Rattle.std.proofs.Common.{option_copied}
use Rattle.replica_view.proofs.MadeLineFacts.{lines_pass, lines_more, passed_as, not_passed_as}
use Rattle.replica_view.proofs.listing.push_receipts.Goals as goal

pub loop-receipt-preserved-then-is_left_aside : goal.loop-receipt-preserved-then-is_left_aside
loop-receipt-preserved-then-is_left_aside g c =
    lines_pass _ _ c.into_iter-receipt-iterator.result c.loop-receipt.receipt-iterator c.next.new.self c.in-Some.receipt.now
    c.args.lines.now.items c.loop-receipt.lines.items c.in-Some.ensures.steps c.loop-receipt.invariant
    (passed_as (option_copied c.args.chosen) c.is_left_aside.result _ _ c.domain.ensures.domain c.is_left_aside.ensures c.if-is_left_aside.true)

pub loop-receipt-preserved : goal.loop-receipt-preserved
loop-receipt-preserved g c =
    lines_more _ _ c.into_iter-receipt-iterator.result c.loop-receipt.receipt-iterator c.next.new.self c.in-Some.receipt.now
    c.args.lines.now.items c.loop-receipt.lines.items c.in-Some.ensures.steps c.loop-receipt.invariant c.push_shown_receipt.new.lines.items
    (not_passed_as (option_copied c.args.chosen) c.is_left_aside.result _ _ c.domain.ensures.domain c.is_left_aside.ensures c.if-is_left_aside.false)
    c.in_ok-push_shown_receipt.ensures
