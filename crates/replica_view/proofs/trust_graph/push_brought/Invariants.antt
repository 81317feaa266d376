use Rattle.std.proofs.Common.{option_copied}
use Rattle.replica_view.specs.TrustGraph.{IsPassedReceipt, ShowsBrought}
use Rattle.replica_view.proofs.MadeLineFacts.{LinesSoFar}
use Rattle.replica_view.proofs.trust_graph.push_brought.Given as goal

abbrev pub invariant-loop-receipt : goal.invariant-loop-receipt
invariant-loop-receipt g l = LinesSoFar (IsPassedReceipt (g.C.Closure.state l.closure).meaning (option_copied l.chosen)) ShowsBrought
    l.initial.receipt-iterator l.receipt-iterator l.initial.lines.items l.lines.items
