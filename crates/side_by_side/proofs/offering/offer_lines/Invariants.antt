-- These lines were offered, and there is a number for each that is left.
use Rattle.std.proofs.Common.{◌+◌, ◌≤◌, length}
use Rattle.side_by_side.specs.Offering.{as_kept}
use Rattle.side_by_side.specs.Inside.Steps.{offered_count}
use Rattle.side_by_side.proofs.StepFacts.{HasOfferedSome}
use Rattle.side_by_side.proofs.offering.offer_lines.Given as goal

abbrev pub invariant-lines : goal.invariant-lines
invariant-lines g l = record {
  some : HasOfferedSome (as_kept (g.C.Closure.state l.initial.to).meaning l.initial.journal.items) l.initial.lines
      (as_kept (g.C.Closure.state l.to).meaning l.journal.items) l.rest l.offered;
  size : offered_count l.offered + length l.rest ≤ length l.initial.lines;
}

abbrev pub decreases-lines : goal.decreases-lines
decreases-lines g l = length l.rest
