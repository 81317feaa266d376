-- The session continued to here, and there is room for bytes that are read ahead.
use Rattle.std.proofs.Common.{◌<◌}
use Rattle.std.specs.Io.KnownBytes.{prepend_known}
use Rattle.byte_lines.specs.Ahead.{ahead_of, chunk_room}
use Rattle.bucket_sums.specs.QuietRuns.{RunsQuietly, session_state}
use Rattle.bucket_sums.proofs.quiet_session.pull_quietly.Given as goal

abbrev pub invariant-steps : goal.invariant-steps
invariant-steps g l = record {
  runs : RunsQuietly l.fn.session
      (session_state (g.C.Closure.state l.fn.closure).meaning (g.R.Source.remaining l.fn.source) (g.W.Sink.contents l.fn.sink))
      (session_state (g.C.Closure.state l.closure).meaning (prepend_known (ahead_of l.ahead) (g.R.Source.remaining l.source))
      (g.W.Sink.contents l.sink)) l.session;
  room : 0 < chunk_room l.ahead;
}
