use Rattle.replica_core.proofs.GrownFacts.{receipt-passed}
use Rattle.replica_core.proofs.grown_closures.offer_receipts.Goals as goal

pub loop-receipt-preserved : goal.loop-receipt-preserved
loop-receipt-preserved g c =
    λ none can. receipt-passed (g.C.Closure.state c.args.closure.now).meaning
    (g.C.Closure.state c.loop-receipt.closure).meaning (g.C.Closure.state c.offer_receipt.new.closure).meaning
    c.args.receipts.now
    c.loop-receipt.receipt-index c.receipt-item.result c.loop-receipt-test.true c.receipt-item.is
    (c.loop-receipt.invariant none can) c.in_ok-offer_receipt.ensures.next can
