use Rattle.std.proofs.Common.{◌≡◌, take}
use Rattle.wait_index.specs.Inside.Tally.{tally_of, marks_capacity, TouchesAll}
use Rattle.wait_index.proofs.marks.Marks.touch_all.Given as goal

abbrev pub invariant-loop-label : goal.invariant-loop-label
invariant-loop-label l = TouchesAll (take l.label-index l.labels) (tally_of l.initial.self) (tally_of l.self)
    × (marks_capacity l.self ≡ marks_capacity l.initial.self)
