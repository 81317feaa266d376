-- A text without a line feed was passed, nothing was lost, and the source is as sound as it was.
use Rattle.std.proofs.Common.{◌≡◌, ◌+◌, ◌<◌, length}
use Rattle.std.specs.Io.KnownBytes.{prepend_known}
use Rattle.byte_lines.specs.Ahead.{ahead_of, chunk_room}
use Rattle.byte_lines.proofs.StreamFacts.{Went}
use Rattle.replica_sync.proofs.refused_line.error_of_line.Given as goal

abbrev pub invariant-pieces : goal.invariant-pieces
invariant-pieces g l = record {
  room : 0 < chunk_room l.ahead;
  went : Went (prepend_known (ahead_of l.fn.ahead) (g.R.Source.remaining l.fn.source))
      (prepend_known (ahead_of l.ahead) (g.R.Source.remaining l.source));
  sound : g.R.Source.has_failed l.source ≡ g.R.Source.has_failed l.fn.source;
}

abbrev pub decreases-pieces : goal.decreases-pieces
decreases-pieces g l = length (ahead_of l.ahead) + g.R.Source.budget l.source
