use Rattle.replica_core.proofs.GrownFacts.{gathered-all}
use Rattle.replica_core.proofs.grown_closures.gathered.Goals as goal

pub returns : goal.returns
returns g c =
    λ can knows. gathered-all c.args.config.now (g.C.Closure.state c.in_ok-closure.closure).meaning
    (g.C.Closure.state c.offer_records.new.closure).meaning (g.C.Closure.state c.offer_receipts.new.closure).meaning
    c.args.receipts.now c.args.records.now can knows c.in_ok-closure.ensures c.offer_records.ensures c.in_ok-offer_receipts.ensures
