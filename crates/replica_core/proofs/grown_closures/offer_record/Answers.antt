use Rattle.replica_core.proofs.GrownFacts.{unfit-distrusted, next-distrusted}
use Rattle.replica_core.proofs.grown_closures.offer_record.Goals as goal

pub returns-clause-unfit : goal.returns-clause-unfit
returns-clause-unfit g c =
    unfit-distrusted (g.C.Closure.state c.args.closure.now).meaning
    (g.C.Closure.state c.distrust-refusal.new.self).meaning c.args.distrust.now c.distrust-refusal.result
    c.distrust-refusal.ensures.meaning

pub returns-clause-next : goal.returns-clause-next
returns-clause-next g c =
    λ later. next-distrusted (g.C.Closure.state c.args.closure.now).meaning
    (g.C.Closure.state c.distrust-refusal.new.self).meaning c.args.distrust.now c.distrust-refusal.result later
    c.distrust-refusal.ensures.meaning
