-- Those so far came before, and are counted.
use Rattle.std.proofs.Common.{◌≡◌, ◌≤◌}
use Rattle.replica_core.proofs.RoomFacts.{IsCounted}
use Rattle.replica_core.proofs.absorbing.new_receipts.Given as goal

abbrev pub invariant-loop-receipt : goal.invariant-loop-receipt
invariant-loop-receipt g l = record {
  front : l.before ≡ record { items = l.receipts; count = l.receipt-index };
  few : l.count ≤ l.receipt-index;
  counted : IsCounted (g.C.Closure.state l.closure).meaning l.receipts l.receipt-index l.count l.offers;
}
