-- The session was served to here, what was due is written, and the lines that ended are counted.
use Rattle.std.proofs.Common.{◌≡◌, ◌+◌, ◌^◌, ◌<◌, List, [], length}
use Rattle.std.specs.Io.KnownBytes.{prepend_known}
use Rattle.byte_lines.specs.Ahead.{ahead_of, chunk_room}
use Rattle.replica_sync.specs.ServedPieces.{Came, bytes_came}
use Rattle.bucket_sums.specs.Quiet.{due_quiet}
use Rattle.bucket_sums.specs.QuietRuns.{HasServedRun, feeds_in, session_state}
use Rattle.bucket_sums.specs.Inside.QuietTurns.{turns_left}
use Rattle.bucket_sums.proofs.quiet_session.serve_quietly.Given as goal

abbrev pub invariant-pieces : goal.invariant-pieces
invariant-pieces g l = record {
  run : (came : List Came) × HasServedRun
      (session_state (g.C.Closure.state l.fn.closure).meaning (g.R.Source.remaining l.fn.source) (g.W.Sink.contents l.fn.sink))
      (session_state (g.C.Closure.state l.fn.closure).meaning (prepend_known (ahead_of l.ahead) (g.R.Source.remaining l.source))
      (g.W.Sink.contents l.sink)) came l.session × (l.lines ≡ feeds_in (bytes_came came));
  idle : due_quiet l.session ≡ [];
  same : l.closure ≡ l.fn.closure;
  room : 0 < chunk_room l.ahead;
  below : l.lines + (length (ahead_of l.ahead) + g.R.Source.budget l.source) < 2 ^ 64;
  source : g.R.Source.has_failed l.source ≡ g.R.Source.has_failed l.fn.source;
  sink : g.W.Sink.has_failed l.sink ≡ g.W.Sink.has_failed l.fn.sink;
}

abbrev pub decreases-pieces : goal.decreases-pieces
decreases-pieces g l = length (ahead_of l.ahead) + g.R.Source.budget l.source + turns_left l.session
