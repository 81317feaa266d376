use Rattle.std.proofs.Common.{◌≡◌, ◌∙◌, ap, sym, arith, length, ◌∷◌, ◌<◌}
use Rattle.closure_core.specs.AcceptedList.{receipts_within}
use Rattle.closure_core.proofs.BucketFacts.{within_skips, within_gives}
use Rattle.closure_core.proofs.lending.ReceiptsIterator.next.Goals as goal

pub returns-then-is_within-clause-steps : goal.returns-then-is_within-clause-steps
returns-then-is_within-clause-steps c =
    sym c.self.view_is ∙ sym c.loop-receipt.invariant
    ∙ within_gives c.loop-receipt.self-inside.bucket c.in-Some.receipt.now c.loop-receipt.self-inside.lent c.next.new.self
    c.in-Some.ensures.steps (sym c.is_within.ensures ∙ c.if-is_within.true)

pub returns-then-is_within-clause-goes : goal.returns-then-is_within-clause-goes
returns-then-is_within-clause-goes c =
    let same : c.args.self.now ≡ c.in-Some.receipt.now ∷ receipts_within c.loop-receipt.self-inside.bucket c.next.new.self =
    sym c.self.view_is ∙ sym c.loop-receipt.invariant
    ∙ within_gives c.loop-receipt.self-inside.bucket c.in-Some.receipt.now c.loop-receipt.self-inside.lent c.next.new.self
    c.in-Some.ensures.steps (sym c.is_within.ensures ∙ c.if-is_within.true) in
    let fewer : length (receipts_within c.loop-receipt.self-inside.bucket c.next.new.self) < length c.args.self.now = omega (arith, ap length same) in
    record { on = λ f. (tt, tt, fewer); keeps = tt; rests = λ f. tt }

pub loop-receipt-preserved : goal.loop-receipt-preserved
loop-receipt-preserved c =
    within_skips c.loop-receipt.self-inside.bucket c.in-Some.receipt.now c.loop-receipt.self-inside.lent c.next.new.self
    c.in-Some.ensures.steps (sym c.is_within.ensures ∙ c.if-is_within.false) ∙ c.loop-receipt.invariant
