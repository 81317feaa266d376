use Rattle.replica_core.specs.State.{no_state}
use Rattle.replica_core.specs.World.{AreOf, MeansState}
use Rattle.replica_core.proofs.replicas_in_memory.empty_closures.Given as goal

abbrev pub invariant-loop : goal.invariant-loop
invariant-loop g l = AreOf (MeansState (λ c. (g.C.Closure.state c).meaning) l.config) l.counter l.closures.items (λ i. no_state)
