-- The log is that of the lines so far, each of which took at least one byte.
use Rattle.std.proofs.Common.{◌≡◌, ◌+◌, ◌^◌, ◌<◌}
use Rattle.byte_lines.specs.Streams.{stream_of, left_of}
use Rattle.poll_log.specs.Polling.{polled}
use Rattle.poll_log.specs.Inside.PollSteps.{HasRead}
use Rattle.poll_log.proofs.poll_lines.read_polls.Given as goal

abbrev pub invariant-lines : goal.invariant-lines
invariant-lines g l = record {
  read : HasRead (polled l.config) (g.R.Source.remaining l.fn.source) (stream_of g.R.Source.remaining l.lines l.source) l.log l.number;
  below : l.number + left_of g.R.Source.budget l.lines l.source < 2 ^ 64;
  fault : g.R.Source.has_failed l.source ≡ g.R.Source.has_failed l.fn.source;
}

abbrev pub decreases-lines : goal.decreases-lines
decreases-lines g l = left_of g.R.Source.budget l.lines l.source
