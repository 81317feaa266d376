use Rattle.std.proofs.Common.{◌≡◌, length}
use Rattle.closure_core.specs.AcceptedList.{receipts_within}
use Rattle.closure_core.proofs.lending.ReceiptsIterator.next.Given as goal

abbrev pub invariant-loop-receipt : goal.invariant-loop-receipt
invariant-loop-receipt l =
    receipts_within l.self-inside.bucket l.self-inside.lent
    ≡ receipts_within l.initial.self-inside.bucket l.initial.self-inside.lent

abbrev pub decreases-loop-receipt : goal.decreases-loop-receipt
decreases-loop-receipt l = length l.self-inside.lent
