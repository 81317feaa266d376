use Rattle.std.proofs.Common.{length, ◌-◌}
use Rattle.replica_core.proofs.HaveFacts.{RisesTo}
use Rattle.replica_core.proofs.have_message.is_rising.Given as goal

abbrev pub decreases-neighbours : goal.decreases-neighbours
decreases-neighbours l = length l.ids - l.place

abbrev pub invariant-neighbours : goal.invariant-neighbours
invariant-neighbours l = RisesTo l.initial.ids l.place
