use Rattle.std.proofs.Common.{◌≡◌, ◌+◌, length}
use Rattle.std.specs.Prelude.{vec_capacity}
use Rattle.wait_index.specs.Inside.Fall.{ListsFallen}
use Rattle.wait_index.specs.Inside.Tally.{net_of, tally_of, marks_capacity}
use Rattle.wait_index.proofs.FallFacts.{TakesBackFrom}
use Rattle.wait_index.proofs.marks.Marks.take_back_waits.Given as goal

abbrev pub invariant-waits : goal.invariant-waits
invariant-waits g l = TakesBackFrom (net_of l.graph) g.closing l.index l.label l.link (tally_of l.initial.self)
    (tally_of l.self) × (marks_capacity l.self ≡ marks_capacity l.initial.self)
    × ListsFallen (net_of l.graph) (tally_of l.self) l.last.fallen.items
    × (length l.last.fallen.items + length l.self.marked.items.items
    ≡ length l.initial.last.fallen.items + length l.initial.self.marked.items.items)
    × (vec_capacity l.last.fallen ≡ vec_capacity l.initial.last.fallen)

abbrev pub decreases-waits : goal.decreases-waits
decreases-waits g l = l.link
