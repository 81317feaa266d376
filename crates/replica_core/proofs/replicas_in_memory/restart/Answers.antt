use Rattle.std.proofs.Common.{refl}
use Rattle.std.proofs.lemmas.Result.{on_ok_weaker}
use Rattle.replica_core.specs.World.{rules_of, is_replica}
use Rattle.replica_core.specs.declared.event.Event.TheVariants.{Restart}
use Rattle.replica_core.proofs.ReplicaFacts.{on-all, plays-restarts}
use Rattle.replica_core.proofs.replicas_in_memory.restart.Goals as goal

pub returns : goal.returns
returns g c =
    λ config. on-all (λ closure. (g.C.Closure.state closure).meaning) config c.args.replicas.now
    (record c.args.replicas.now { held = c.copy_at.new.to }) (Restart c.args.replica) c.copy_at.result
    (λ n w p.
    on_ok_weaker c.copy_at.result
    (plays-restarts (λ closure. (g.C.Closure.state closure).meaning) config n
    (is_replica (rules_of config n) c.args.replica) (rules_of config n).limits c.args.replicas.now
    (record c.args.replicas.now { held = c.copy_at.new.to }) w c.args.replica p refl refl)
    (c.copy_at.ensures config n w.saved w.now p.saved p.held))
