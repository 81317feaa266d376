-- The lines so far are taken.
use Rattle.std.proofs.Common.{◌≡◌, ◌≤◌, ◌-◌, ◌++◌, List, ℕ, length, take}
use Rattle.bucket_sums.specs.Serving.{HasTakenQuestion, own_sums_of}
use Rattle.bucket_sums.proofs.sums_serving.SumsServing.read_lines.Given as goal

abbrev pub invariant-lines : goal.invariant-lines
invariant-lines l = record {
  takes : (came : List ℕ) → HasTakenQuestion l.config l.fn.self came → HasTakenQuestion l.config l.self (came ++ take l.used l.piece);
  own : own_sums_of l.self ≡ own_sums_of l.fn.self;
  within : l.used ≤ length l.piece;
}

abbrev pub decreases-lines : goal.decreases-lines
decreases-lines l = length l.piece - l.used
