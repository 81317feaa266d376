use Rattle.std.proofs.Common.{◌-◌, ◌≤◌, length, vec_capacity}
use Rattle.sorted_order.proofs.directory.add_spares.Given as goal

abbrev pub invariant-loop-alloc : goal.invariant-loop-alloc
invariant-loop-alloc l = record {
  more : length l.initial.spare.items ≤ length l.spare.items;
  most : length l.spare.items ≤ l.wanted;
  room : l.wanted ≤ vec_capacity l.spare;
}

abbrev pub decreases-loop-alloc : goal.decreases-loop-alloc
decreases-loop-alloc l = l.wanted - length l.spare.items
