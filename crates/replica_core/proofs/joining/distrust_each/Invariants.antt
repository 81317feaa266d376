-- Those so far are held, and the others are welcome.
use Rattle.replica_core.proofs.JoiningFacts.{IsDistrusting}
use Rattle.replica_core.proofs.joining.distrust_each.Given as goal

abbrev pub invariant-loop-record : goal.invariant-loop-record
invariant-loop-record g l = IsDistrusting (g.C.Closure.state l.initial.closure) (g.C.Closure.state l.closure) l.records l.record-index
