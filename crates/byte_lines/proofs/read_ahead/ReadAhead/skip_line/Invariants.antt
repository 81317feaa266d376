-- A text without a line feed was passed, nothing was lost, and the source is as sound as it was.
-- The source is read only if all that was held at first was passed.
use Rattle.std.proofs.Common.{◌≡◌, ◌+◌, ◌<◌, ◌≤◌, length, []}
use Rattle.std.specs.Io.KnownBytes.{prepend_known}
use Rattle.byte_lines.specs.Lines.{HasNoFeed}
use Rattle.byte_lines.specs.Ahead.{ahead_of, chunk_room}
use Rattle.byte_lines.proofs.StreamFacts.{Went}
use Rattle.byte_lines.proofs.read_ahead.ReadAhead.skip_line.Given as goal

abbrev pub invariant-pieces : goal.invariant-pieces
invariant-pieces g l = record {
  room : 0 < chunk_room l.self;
  went : Went (prepend_known (ahead_of l.initial.self) (g.R.Source.remaining l.initial.source))
      (prepend_known (ahead_of l.self) (g.R.Source.remaining l.source));
  spent : length (ahead_of l.self) + g.R.Source.budget l.source ≤ length (ahead_of l.initial.self) + g.R.Source.budget l.initial.source;
  none : ahead_of l.self ≡ [] → HasNoFeed (ahead_of l.initial.self);
  same : 0 < length (ahead_of l.self) → ahead_of l.self ≡ ahead_of l.initial.self;
  sound : g.R.Source.has_failed l.source ≡ g.R.Source.has_failed l.initial.source;
}

abbrev pub decreases-pieces : goal.decreases-pieces
decreases-pieces g l = length (ahead_of l.self) + g.R.Source.budget l.source
