use Rattle.std.proofs.Common.{◌≡◌, ◌≤◌, length, take}
use Rattle.wait_index.specs.Inside.Tally.{net_of, tally_of, marks_capacity}
use Rattle.wait_index.specs.Inside.Step.{Follows}
use Rattle.wait_index.proofs.marks.Marks.restore.Given as goal

abbrev pub invariant-labels : goal.invariant-labels
invariant-labels l = record {
  follows : Follows (net_of l.graph) (tally_of l.self) (length l.initial.self.marked.items.items) 0 0;
  front : take (length l.initial.self.marked.items.items) l.self.marked.items.items ≡ l.initial.self.marked.items.items;
  visits : l.initial.self.visits ≤ l.self.visits;
  capacity : marks_capacity l.self ≡ marks_capacity l.initial.self;
}

abbrev pub decreases-labels : goal.decreases-labels
decreases-labels l = length l.self.touched.items.items
