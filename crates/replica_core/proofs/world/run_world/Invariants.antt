use Rattle.std.proofs.Common.{take}
use Rattle.replica_core.specs.World.{rules_of, run}
use Rattle.replica_core.specs.Inside.ReplicasInMemory.{Plays}
use Rattle.replica_core.proofs.world.run_world.Given as goal

abbrev pub invariant-loop-event : goal.invariant-loop-event
invariant-loop-event g l = Plays (λ c. (g.C.Closure.state c).meaning) l.config l.n l.replicas
    (run (rules_of l.config l.n) (take l.event-index l.events))
