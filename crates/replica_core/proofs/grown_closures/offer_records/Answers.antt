use Rattle.replica_core.proofs.GrownFacts.{record-passed}
use Rattle.replica_core.proofs.grown_closures.offer_records.Goals as goal

pub loop-record-preserved : goal.loop-record-preserved
loop-record-preserved g c =
    λ none can. record-passed (g.C.Closure.state c.args.closure.now).meaning
    (g.C.Closure.state c.loop-record.closure).meaning (g.C.Closure.state c.offer_record.new.closure).meaning
    c.args.records.now
    c.loop-record.record-index c.record-item.result c.loop-record-test.true c.record-item.is (c.loop-record.invariant none can) c.offer_record.ensures.next can
