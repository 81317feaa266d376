-- Those so far that are not distrusted were taken.
use Rattle.bundle_view.proofs.WaitingFacts.{AreSifted}
use Rattle.bundle_view.proofs.trusted_receipts.list_trusted.Given as goal

abbrev pub invariant-loop-receipt : goal.invariant-loop-receipt
invariant-loop-receipt g l = AreSifted (g.C.Closure.state l.closure).meaning.records l.initial.receipt-iterator l.waiting.items l.receipt-iterator
