-- The sums of the parts so far.
use Rattle.std.proofs.Common.{◌≡◌, length}
use Rattle.replica_core.specs.Session.{state_of}
use Rattle.bucket_sums.specs.Inside.KeptSteps.{ArePartSums}
use Rattle.bucket_sums.proofs.kept_sums.KeptSums.parts_of.Given as goal

abbrev pub invariant-places : goal.invariant-places
invariant-places g l = record {
  all : length l.parts.items ≡ l.part;
  sums : ArePartSums (state_of (g.C.Closure.state l.closure).meaning) 0 l.parts.items;
}
