use Rattle.std.proofs.Common.{arith, refl}
use Rattle.replica_core.proofs.HaveFacts.{falls-at, rises-all}
use Rattle.replica_core.proofs.have_message.is_rising.Goals as goal

pub returns-then-not-is_below : goal.returns-then-not-is_below
returns-then-not-is_below c =
    (λ t. absurd (cc), λ r. absurd (falls-at c.args.ids.now c.neighbours.place _ c.neighbours.invariant.some (omega arith) c.if-not-is_below.ensures r))

pub returns : goal.returns
returns c = (λ t. rises-all c.args.ids.now c.neighbours.place c.neighbours.invariant (omega arith), λ r. refl)
