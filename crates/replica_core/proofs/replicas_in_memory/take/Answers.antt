use Rattle.replica_core.specs.declared.event.Event.TheVariants.{Take}
use Rattle.replica_core.proofs.ReplicaFacts.{gain-follows, receipt-gains}
use Rattle.replica_core.proofs.replicas_in_memory.take.Goals as goal

pub returns : goal.returns
returns g c =
    gain-follows (λ closure. (g.C.Closure.state closure).meaning) c.args.config.now c.args.replicas.now
    c.gain.new.replicas (Take c.args.replica c.args.receipt.now) c.args.replica
    (g.C.Closure.state c.offer_receipt.new.closure).meaning c.gain.result c.gain.ensures
    (λ n w p. receipt-gains c.args.config.now n w c.args.replica c.args.receipt.now
    (g.C.Closure.state c.in_ok-more.more).meaning (g.C.Closure.state c.offer_receipt.new.closure).meaning
    c.in_ok-more.ensures c.in_ok-offer_receipt.ensures.unfit c.in_ok-offer_receipt.ensures.next)
