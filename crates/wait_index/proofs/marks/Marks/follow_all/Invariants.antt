use Rattle.std.proofs.Common.{◌≡◌, ◌-◌, ◌≤◌, length}
use Rattle.wait_index.specs.Inside.Tally.{net_of, tally_of, marks_capacity}
use Rattle.wait_index.specs.Inside.Step.{Follows, Spreads}
use Rattle.wait_index.proofs.marks.Marks.follow_all.Given as goal

abbrev pub invariant-nodes : goal.invariant-nodes
invariant-nodes l = record {
  follows : Follows (net_of l.graph) (tally_of l.self) l.cursor 0 0;
  within : l.cursor ≤ length l.self.marked.items.items;
  spreads : Spreads (tally_of l.initial.self) (tally_of l.self);
  capacity : marks_capacity l.self ≡ marks_capacity l.initial.self;
}

abbrev pub decreases-nodes : goal.decreases-nodes
decreases-nodes l = length l.graph.roots.items - l.cursor
