-- The marked buckets so far, with those that are still to come, are all.
use Rattle.std.proofs.Common.{◌≡◌, ◌+◌, ◌++◌, drop}
use Rattle.bucket_sums.specs.Sessions.{marked_from}
use Rattle.bucket_sums.proofs.part_marks.Marks.marked.Given as goal

abbrev pub invariant-buckets : goal.invariant-buckets
invariant-buckets l = l.buckets.items ++ marked_from l.bucket (drop (l.bucket + 1) l.self) ≡ marked_from 0 (drop 1 l.self)
