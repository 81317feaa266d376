-- Listed are the numbers that were lent so far.
use Rattle.std.proofs.Common.{◌≡◌, ◌≤◌, ◌++◌, length}
use Rattle.std.specs.Prelude.{vec_capacity}
use Rattle.label_index.proofs.label_table.list_numbers.Given as goal

abbrev pub invariant-loop-number : goal.invariant-loop-number
invariant-loop-number l = record {
  numbers : l.list.items ++ l.number-iterator ≡ l.initial.number-iterator;
  few : length l.initial.number-iterator ≤ vec_capacity l.initial.list;
  room : vec_capacity l.list ≡ vec_capacity l.initial.list;
}
