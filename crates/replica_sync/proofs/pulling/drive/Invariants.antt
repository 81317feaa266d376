-- The session was given what was read and not kept ahead, and no device has failed.
use Rattle.std.proofs.Common.{◌≡◌, ◌+◌, length}
use Rattle.std.specs.Io.KnownBytes.{prepend_known}
use Rattle.byte_lines.specs.Ahead.{ahead_of}
use Rattle.replica_sync.specs.SessionRun.{session_run}
use Rattle.replica_sync.specs.Inside.Driving.{Driven}
use Rattle.replica_sync.proofs.pulling.drive.Given as goal

abbrev pub invariant-rounds : goal.invariant-rounds
invariant-rounds g l = record {
  driven : Driven (g.C.Closure.state l.fn.closure).meaning
      (session_run (g.R.Source.remaining l.fn.source) (g.W.Sink.contents l.fn.sink) (g.W.Sink.contents l.sink)) l.pulling
      (g.C.Closure.state l.closure).meaning (prepend_known (ahead_of l.ahead) (g.R.Source.remaining l.source));
  source : g.R.Source.has_failed l.source ≡ g.R.Source.has_failed l.fn.source;
  sink : g.W.Sink.has_failed l.sink ≡ g.W.Sink.has_failed l.fn.sink;
}

abbrev pub decreases-rounds : goal.decreases-rounds
decreases-rounds g l = length (ahead_of l.ahead) + g.R.Source.budget l.source
