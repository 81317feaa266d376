-- What was read is judged, each line took at least one byte, and a line has at most one line error.
-- The devices are as sound as they were.
use Rattle.std.proofs.Common.{◌≡◌, ◌+◌, ◌^◌, ◌<◌, ◌≤◌}
use Rattle.byte_lines.specs.Streams.{stream_of, left_of}
use Rattle.fedbundle.proofs.RunFacts.{SoFar}
use Rattle.fedbundle.proofs.judge.take_lines.Given as goal

abbrev pub invariant-lines : goal.invariant-lines
invariant-lines g l = record {
  so_far : SoFar (g.C.Closure.state l.fn.closure).meaning.config (g.R.Source.remaining l.fn.source) (stream_of g.R.Source.remaining l.lines l.source)
      (g.C.Closure.state l.closure).meaning (g.E.Sink.contents l.fn.line_errors) (g.E.Sink.contents l.line_errors) l.number l.count;
  below : l.number + left_of g.R.Source.budget l.lines l.source < 2 ^ 64;
  few : l.count ≤ l.number;
  source_sound : g.R.Source.has_failed l.source ≡ g.R.Source.has_failed l.fn.source;
  stated_sound : g.E.Sink.has_failed l.line_errors ≡ g.E.Sink.has_failed l.fn.line_errors;
}

abbrev pub decreases-lines : goal.decreases-lines
decreases-lines g l = left_of g.R.Source.budget l.lines l.source
