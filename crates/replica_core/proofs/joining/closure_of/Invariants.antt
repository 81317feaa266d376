-- Those so far are held, and nothing else is.
use Rattle.replica_core.proofs.JoiningFacts.{IsCollected}
use Rattle.replica_core.proofs.joining.closure_of.Given as goal

abbrev pub invariant-loop-record : goal.invariant-loop-record
invariant-loop-record g l = IsCollected l.config (g.C.Closure.state l.besides).meaning l.records l.record-index
