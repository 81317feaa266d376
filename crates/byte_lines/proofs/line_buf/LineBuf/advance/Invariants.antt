-- The stream is as it was, and so is the source. It is read only if no whole line is kept.
use Rattle.std.proofs.Common.{◌≡◌, ◌+◌, ◌<◌, ◌≤◌, length, [], false}
use Rattle.std.specs.Io.KnownBytes.{Keeps}
use Rattle.byte_lines.specs.Lines.{HasNoFeed}
use Rattle.byte_lines.specs.Ahead.{ahead_of, chunk_room}
use Rattle.byte_lines.specs.Streams.{kept, stream_of, left_of}
use Rattle.byte_lines.proofs.line_buf.LineBuf.advance.Given as goal

abbrev pub invariant-pieces : goal.invariant-pieces
invariant-pieces g l = record {
  waiting : l.self.is_given ≡ false;
  room : 0 < chunk_room l.self.ahead;
  keeps : Keeps (stream_of g.R.Source.remaining l.fn.self l.fn.source) (stream_of g.R.Source.remaining l.self l.source);
  spent : left_of g.R.Source.budget l.self l.source ≤ left_of g.R.Source.budget l.fn.self l.fn.source;
  none : ahead_of l.self.ahead ≡ [] → HasNoFeed (kept l.fn.self);
  same : 0 < length (ahead_of l.self.ahead) → kept l.self ≡ kept l.fn.self;
  sound : g.R.Source.has_failed l.source ≡ g.R.Source.has_failed l.fn.source;
}

abbrev pub decreases-pieces : goal.decreases-pieces
decreases-pieces g l = length (ahead_of l.self.ahead) + g.R.Source.budget l.source
