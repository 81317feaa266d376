-- Listed are the numbers among the first labels.
use Rattle.std.proofs.Common.{◌≡◌, ◌≤◌, length}
use Rattle.std.specs.Prelude.{vec_capacity}
use Rattle.label_index.proofs.ClosedLabelFacts.{AreNumbersBelow}
use Rattle.label_index.proofs.index.list_meant.Given as goal

abbrev pub invariant-loop-number : goal.invariant-loop-number
invariant-loop-number g l = record {
  numbers : AreNumbersBelow l.labels (g.T.LabelTest.IsMeant l.test) l.number l.list.items;
  few : length l.list.items ≤ l.number;
  room : vec_capacity l.list ≡ vec_capacity l.initial.list;
}
