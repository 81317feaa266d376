-- The first receipts were looked at.
use Rattle.reseeding.proofs.StayFacts.{StaySoFar}
use Rattle.reseeding.proofs.staying.count_staying.Given as goal

abbrev pub invariant-receipts : goal.invariant-receipts
invariant-receipts g l = StaySoFar (g.C.Closure.state l.closure).meaning l.initial.receipt-iterator l.receipt-iterator l.count
