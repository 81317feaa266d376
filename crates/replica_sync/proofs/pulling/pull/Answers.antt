use Rattle.replica_sync.proofs.DrivenPulls.{unbegun}
use Rattle.replica_sync.proofs.pulling.pull.Goals as goal

pub returns-in-Err-clause-pulls : goal.returns-in-Err-clause-pulls
returns-in-Err-clause-pulls g c =
    unbegun (g.C.Closure.state c.args.closure.now).meaning (g.R.Source.remaining c.args.source.now) (g.W.Sink.contents c.args.sink.now) c.in-Err.why
    c.in-Err.ensures.refused
