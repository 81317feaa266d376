-- One more is not held.
use Rattle.std.proofs.Common.{List, length, ◌≤◌, ◌∙◌, ap, subst, arith}
use Rattle.std.specs.List.{Contains}
use Rattle.receipt_core.specs.Receipt.{Receipt}
use Rattle.closure_parts.specs.Held.{meaning_of}
use Rattle.closure_parts.proofs.MergeFacts.{IsCounted, IsCounted-start, IsCounted-new, counted_receipts, lacks_of}
use Rattle.receipt_core.proofs.LimitFacts.{receipt_limit-most}
use Rattle.receipt_core.specs.Limits.{most_receipts}
use Rattle.closure_parts.proofs.copies.new_receipts.Goals as goal

pub loop-receipt-init : goal.loop-receipt-init
loop-receipt-init c =
    let all = c.into_iter-receipt-iterator.result in
    let few : length all ≤ most_receipts = omega (
      arith,
      ap length (c.into_iter-receipt-iterator.ensures.into_iter_gives ∙ c.receipts-receipt-items.ensures),
      c.config-other_valid.ensures.valid.few,
      receipt_limit-most c.args.other.now.config,
    ) in
    IsCounted-start c.args.held.now.held all most_receipts few

pub loop-receipt-preserved-then-not-holds : goal.loop-receipt-preserved-then-not-holds
loop-receipt-preserved-then-not-holds c =
    let held = c.args.held.now.held in
    IsCounted-new held c.into_iter-receipt-iterator.result c.loop-receipt.receipt-iterator c.next.new.self
    c.in-Some.receipt.now c.loop-receipt.count most_receipts c.loop-receipt.invariant c.in-Some.ensures.steps
    (lacks_of c.holds.result (Contains held c.in-Some.receipt.now) c.if-not-holds.true c.holds.ensures)

pub returns : goal.returns
returns c =
    let m = meaning_of c.args.held.now in
    counted_receipts m (meaning_of c.args.other.now) c.loop-receipt.receipt-iterator c.loop-receipt.count most_receipts
    c.config-valid.ensures.valid c.config-other_valid.ensures.valid
    (subst (λ (all : List Receipt). IsCounted m.held all c.loop-receipt.receipt-iterator c.loop-receipt.count most_receipts)
    (c.into_iter-receipt-iterator.ensures.into_iter_gives ∙ c.receipts-receipt-items.ensures)
    c.loop-receipt.invariant)
    c.in-None.ensures.steps.0
