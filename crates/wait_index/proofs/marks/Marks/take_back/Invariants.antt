use Rattle.std.proofs.Common.{◌≡◌, ◌-◌, ◌≤◌, ◌+◌, length}
use Rattle.std.specs.Prelude.{vec_capacity}
use Rattle.wait_index.specs.Inside.Tally.{net_of, tally_of, marks_capacity}
use Rattle.wait_index.specs.Inside.Fall.{IsFalling, ListsFallen}
use Rattle.wait_index.proofs.marks.Marks.take_back.Given as goal

abbrev pub invariant-labels : goal.invariant-labels
invariant-labels g l = record {
  falling : IsFalling (net_of l.graph) g.closing (tally_of l.self) l.index 0 0;
  within : l.index ≤ length l.self.touched.items.items;
  listed : ListsFallen (net_of l.graph) (tally_of l.self) l.last.fallen.items;
  many : length l.last.fallen.items + length l.self.marked.items.items ≡ length l.initial.last.fallen.items + length l.initial.self.marked.items.items;
  last_room : vec_capacity l.last.fallen ≡ vec_capacity l.initial.last.fallen;
  capacity : marks_capacity l.self ≡ marks_capacity l.initial.self;
}

abbrev pub decreases-labels : goal.decreases-labels
decreases-labels g l = length l.graph.closed.items - l.index

abbrev pub ghost-take_back_waits : goal.ghost-take_back_waits
ghost-take_back_waits g a = g.closing
