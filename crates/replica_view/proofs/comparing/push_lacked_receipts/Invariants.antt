use Rattle.std.specs.Prelude.{Contains}
use Rattle.replica_view.specs.HeldLines.{ShowsReceipt}
use Rattle.replica_view.proofs.MadeLineFacts.{LinesSoFar}
use Rattle.replica_view.proofs.comparing.push_lacked_receipts.Given as goal

abbrev pub invariant-loop-receipt : goal.invariant-loop-receipt
invariant-loop-receipt g l = LinesSoFar (Contains (g.C.Closure.state l.other).meaning.held) (ShowsReceipt (g.C.Closure.state l.one).meaning l.mark)
    l.initial.receipt-iterator l.receipt-iterator l.initial.lines.items l.lines.items
