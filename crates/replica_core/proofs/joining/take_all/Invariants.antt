-- Those so far are held, and the others are welcome and have room.
use Rattle.std.proofs.Common.{◌≡◌, length}
use Rattle.std.specs.Vec.Iter.{into_iter_items, into_iter_len}
use Rattle.replica_core.proofs.JoiningFacts.{IsJoining}
use Rattle.replica_core.proofs.joining.take_all.Given as goal

abbrev pub invariant-loop-receipt : goal.invariant-loop-receipt
invariant-loop-receipt g l = record {
  joining : IsJoining (g.C.Closure.state l.initial.closure) (g.C.Closure.state l.closure)
      (into_iter_items l.initial.receipt-iterator) (into_iter_items l.receipt-iterator);
  size : into_iter_len l.receipt-iterator ≡ length (into_iter_items l.receipt-iterator);
}
