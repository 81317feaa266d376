-- Those so far are held.
use Rattle.std.proofs.Common.{◌≡◌, length}
use Rattle.std.specs.Vec.Iter.{into_iter_items, into_iter_len}
use Rattle.closure_parts.proofs.JoinFacts.{IsJoining}
use Rattle.closure_parts.proofs.union.take_all.Given as goal

abbrev pub invariant-loop-receipt : goal.invariant-loop-receipt
invariant-loop-receipt g l = record {
  joining : IsJoining (g.C.Mergeable.state l.initial.closure) (g.C.Mergeable.state l.closure)
      (into_iter_items l.initial.receipt-iterator) (into_iter_items l.receipt-iterator);
  same_work : g.C.Mergeable.work_done l.closure ≡ g.C.Mergeable.work_done l.initial.closure;
  size : into_iter_len l.receipt-iterator ≡ length (into_iter_items l.receipt-iterator);
}
