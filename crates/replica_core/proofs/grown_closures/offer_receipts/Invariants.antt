use Rattle.std.proofs.Common.{◌≡◌, [], take}
use Rattle.replica_core.specs.Inside.ReplicasInMemory.{CanHold}
use Rattle.replica_core.proofs.grown_closures.offer_receipts.Given as goal

abbrev pub invariant-loop-receipt : goal.invariant-loop-receipt
invariant-loop-receipt g l =
    (g.C.Closure.state l.initial.closure).meaning.held ≡ [] → CanHold (g.C.Closure.state l.initial.closure).meaning.config l.receipts
    → (g.C.Closure.state l.closure).meaning ≡ record (g.C.Closure.state l.initial.closure).meaning { held = take l.receipt-index l.receipts }
