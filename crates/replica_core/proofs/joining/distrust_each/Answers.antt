-- One more is held.
use Rattle.std.proofs.Common.{sym}
use Rattle.replica_core.proofs.JoiningFacts.{IsDistrusting-next}
use Rattle.replica_core.proofs.joining.distrust_each.Goals as goal

pub loop-record-preserved : goal.loop-record-preserved
loop-record-preserved g c =
    IsDistrusting-next (g.C.Closure.state c.args.closure.now) (g.C.Closure.state c.loop-record.closure)
    (g.C.Closure.state c.distrust.new.self) c.args.records.now c.loop-record.record-index
    c.record-item.result c.distrust.result c.sets.ensures.records c.config-valid.ensures.valid c.loop-record.invariant
    c.loop-record-test.true (sym c.record-item.is) c.distrust.ensures.room c.distrust.ensures.meaning
