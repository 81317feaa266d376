use Rattle.replica_core.specs.declared.event.Event.TheVariants.{Revoke}
use Rattle.replica_core.proofs.ReplicaFacts.{gain-follows, record-gains}
use Rattle.replica_core.proofs.replicas_in_memory.revoke.Goals as goal

pub returns : goal.returns
returns g c =
    gain-follows (λ closure. (g.C.Closure.state closure).meaning) c.args.config.now c.args.replicas.now
    c.gain.new.replicas (Revoke c.args.replica c.args.distrust.now) c.args.replica
    (g.C.Closure.state c.offer_record.new.closure).meaning c.gain.result c.gain.ensures
    (λ n w p. record-gains c.args.config.now n w c.args.replica c.args.distrust.now
    (g.C.Closure.state c.in_ok-more.more).meaning (g.C.Closure.state c.offer_record.new.closure).meaning
    c.in_ok-more.ensures c.offer_record.ensures.unfit c.offer_record.ensures.next)
