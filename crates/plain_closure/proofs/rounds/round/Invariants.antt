-- What is raised is vouched for, and if nothing is raised, the receipts so far are vouched for by
-- none.
use Rattle.std.proofs.Common.{◌≡◌, ◌+◌, ◌≤◌, length}
use Rattle.closure_core.specs.Inside.Flags.{raised_count}
use Rattle.closure_parts.specs.Held.{meaning_of}
use Rattle.plain_closure.specs.Plain.{AreSound, AreQuietBelow}
use Rattle.plain_closure.proofs.rounds.round.Given as goal

abbrev pub invariant-loop-place : goal.invariant-loop-place
invariant-loop-place l = record {
  size : length l.released ≡ length l.initial.released;
  sound : AreSound (meaning_of l.held) l.held.arrived l.initial.released → AreSound (meaning_of l.held) l.held.arrived l.released;
  quiet : l.count ≡ 0 → AreQuietBelow l.held.records l.seed_offers l.held.arrived l.released l.place;
  count : raised_count l.released ≡ raised_count l.initial.released + l.count;
  few : l.count ≤ l.place;
}
