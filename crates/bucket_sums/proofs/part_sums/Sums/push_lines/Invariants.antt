-- What was written, with the lines that are still to come, is all.
use Rattle.std.proofs.Common.{◌≡◌, ◌++◌, drop}
use Rattle.std.specs.List.{flat_map}
use Rattle.bucket_sums.proofs.SumFacts.{line_of}
use Rattle.bucket_sums.proofs.part_sums.Sums.push_lines.Given as goal

abbrev pub invariant-loop-sum : goal.invariant-loop-sum
invariant-loop-sum l = l.out.items ++ flat_map line_of (drop l.sum-index l.sum-items) ≡ l.initial.out.items ++ flat_map line_of l.sum-items
