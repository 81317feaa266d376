use Rattle.std.proofs.Common.{rules, ◌∙◌, ap, subst, List}
use Rattle.receipt_core.specs.Receipt.{Receipt}
use Rattle.receipt_core.proofs.ChainFacts.{not_stated}
use Rattle.replica_texts.specs.Snapshots.{ended}
use Rattle.local_answers.specs.Inside.NewLineSteps.{SiftsReceipts}
use Rattle.local_answers.proofs.NewLineFacts.{receipts_begin, receipt_held, receipt_new, receipts_end}
use Rattle.local_answers.proofs.new_lines.receipt_lines.Goals as goal

pub loop-receipt-init : goal.loop-receipt-init
loop-receipt-init g c =
    receipts_begin _ (g.C.Closure.state c.args.other.now).meaning _ c.new-text.result.items c.config-other_valid.ensures.valid
    (c.into_iter-receipt-iterator.ensures.into_iter_gives ∙ c.receipts-receipt-items.ensures) (search rules)

pub loop-receipt-preserved-then-holds : goal.loop-receipt-preserved-then-holds
loop-receipt-preserved-then-holds g c =
    receipt_held _ c.into_iter-receipt-iterator.result c.loop-receipt.receipt-iterator c.next.new.self c.in-Some.receipt.now c.loop-receipt.text.items
    c.loop-receipt.receipts c.config-valid.ensures.valid.rising c.loop-receipt.invariant c.in-Some.ensures.steps (c.holds.ensures.0 c.if-holds.true)

pub loop-receipt-preserved : goal.loop-receipt-preserved
loop-receipt-preserved g c =
    receipt_new _ c.into_iter-receipt-iterator.result c.loop-receipt.receipt-iterator c.next.new.self c.in-Some.receipt.now c.loop-receipt.text.items
    (ended c.in_ok-write_line.field-0.items) c.push_line.new.text.items c.loop-receipt.receipts c.loop-receipt.invariant c.in-Some.ensures.steps
    (not_stated _ _ c.holds.ensures c.if-holds.false) (ap ended c.in_ok-write_line.ensures) c.in_ok-push_line.ensures

pub returns : goal.returns
returns g c =
    let m = (g.C.Closure.state c.args.closure.now).meaning in
    let other = (g.C.Closure.state c.args.other.now).meaning in
    receipts_end m other c.loop-receipt.receipt-iterator c.loop-receipt.text.items c.loop-receipt.receipts c.config-valid.ensures.valid
    (subst (λ (all : List Receipt). SiftsReceipts m all c.loop-receipt.receipt-iterator c.loop-receipt.text.items c.loop-receipt.receipts)
    (c.into_iter-receipt-iterator.ensures.into_iter_gives ∙ c.receipts-receipt-items.ensures) c.loop-receipt.invariant)
    c.in-None.ensures.steps.0
