-- The numbers of nodes have 32 bits.
use Rattle.std.proofs.Common.{arith}
use Rattle.trust_closure.proofs.changes.take_into.Goals as goal

pub add-accepted_now-requires-clause-few : goal.add-accepted_now-requires-clause-few
add-accepted_now-requires-clause-few c = omega (arith, c.reserve.ensures.reserves.kept.room.few)
