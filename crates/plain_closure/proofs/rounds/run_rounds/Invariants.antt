-- The flags are those of receipts that accepted documents vouch for, and there are more with each
-- round.
use Rattle.std.proofs.Common.{◌≡◌, ◌-◌, length}
use Rattle.closure_core.specs.Inside.Flags.{raised_count}
use Rattle.closure_parts.specs.Held.{meaning_of}
use Rattle.plain_closure.specs.Plain.{AreSound}
use Rattle.plain_closure.proofs.rounds.run_rounds.Given as goal

abbrev pub invariant-loop : goal.invariant-loop
invariant-loop l = record {
  size : length l.released ≡ length l.initial.released;
  sound : AreSound (meaning_of l.held) l.held.arrived l.released;
}

abbrev pub decreases-loop : goal.decreases-loop
decreases-loop l = length l.released - raised_count l.released
