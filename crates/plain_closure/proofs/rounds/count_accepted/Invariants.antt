-- The flags of the documents that are had so far are raised.
use Rattle.std.proofs.Common.{◌≡◌, ◌≤◌, ℕ, true, length}
use Rattle.std.specs.Prelude.{◌↔◌}
use Rattle.closure_core.specs.Inside.Nodes.{is_raised, flags_of, count_at}
use Rattle.closure_core.specs.Inside.Flags.{raised_count}
use Rattle.plain_closure.specs.Plain.{IsFirstAccepted}
use Rattle.plain_closure.proofs.rounds.count_accepted.Given as goal

abbrev pub invariant-loop-node : goal.invariant-loop-node
invariant-loop-node l = record {
  numbers : l.pairs.numbers ≡ l.initial.pairs.numbers;
  heads : l.pairs.heads ≡ l.initial.pairs.heads;
  size : length l.pairs.counts ≡ length l.initial.pairs.counts;
  few : (number : ℕ) → count_at l.pairs.counts number ≤ l.node;
  raised : (number : ℕ) → (is_raised (flags_of l.pairs.counts) number ≡ true) ↔ IsFirstAccepted l.seeds
      l.released l.initial.pairs.heads l.node number;
  count : raised_count (flags_of l.pairs.counts) ≡ l.count;
  capacity : l.pairs.capacity ≡ l.initial.pairs.capacity;
}
