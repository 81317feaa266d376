use Rattle.replica_core.specs.declared.event.Event.TheVariants.{Join}
use Rattle.replica_core.proofs.ReplicaFacts.{gain-follows, join-gains, here}
use Rattle.replica_core.proofs.replicas_in_memory.join.Goals as goal

pub returns : goal.returns
returns g c =
    λ config. gain-follows (λ closure. (g.C.Closure.state closure).meaning) config c.args.replicas.now c.gain.new.replicas
    (Join c.args.replica c.args.other) c.args.replica
    (g.C.Closure.state c.in_ok-more.more).meaning c.gain.result c.gain.ensures
    (λ n w p.
    let found = here (λ closure. (g.C.Closure.state closure).meaning) config n c.args.replicas.now.held.items
    c.deref.result.now w.now c.args.other c.in-Some.closure.now p.held c.deref.ensures.value
    c.in-Some.ensures.lookup.3.0 c.in-Some.ensures.lookup.1 in
    join-gains config n w c.args.replica c.args.other (g.C.Closure.state c.in-Some.closure.now).meaning
    (g.C.Closure.state c.in_ok-more.more).meaning found.0 found.1 c.in_ok-more.ensures)
