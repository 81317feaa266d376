-- Those so far are held.
use Rattle.std.proofs.Common.{◌≡◌}
use Rattle.closure_parts.specs.Held.{meaning_of}
use Rattle.closure_parts.proofs.JoinFacts.{IsDistrusting, HasGrown}
use Rattle.closure_parts.proofs.union.hold_all.Given as goal

abbrev pub invariant-loop-domain : goal.invariant-loop-domain
invariant-loop-domain l = record {
  holding : IsDistrusting (meaning_of l.initial.held) (meaning_of l.held) l.initial.domain-iterator
      l.domain-iterator;
  arrived : l.held.arrived ≡ l.initial.held.arrived;
  capacity : l.held.capacity ≡ l.initial.held.capacity;
  grown : HasGrown (meaning_of l.initial.held) l.initial.domain-iterator (meaning_of l.held);
}
