-- The lines so far are those of what is held, and the last of them and the number of the next are
-- known.
use Rattle.std.proofs.Common.{◌≡◌}
use Rattle.byte_lines.specs.Streams.{stream_of, left_of}
use Rattle.replica_texts.specs.Snapshots.{last_line, next_number}
use Rattle.replica_texts.specs.Inside.Reading.{Holds}
use Rattle.replica_texts.proofs.snapshot_reader.read_held.Given as goal

abbrev pub invariant-lines : goal.invariant-lines
invariant-lines g l = record {
  holds : Holds (g.C.Closure.state l.initial.closure).meaning.config
      (stream_of g.R.Source.remaining l.initial.lines l.initial.source) l.format (g.C.Closure.state l.closure).meaning
      (stream_of g.R.Source.remaining l.lines l.source);
  last : l.last.items ≡ last_line (g.C.Closure.state l.closure).meaning;
  number : l.number ≡ next_number (g.C.Closure.state l.closure).meaning;
  fault : g.R.Source.has_failed l.source ≡ g.R.Source.has_failed l.initial.source;
}

abbrev pub decreases-lines : goal.decreases-lines
decreases-lines g l = left_of g.R.Source.budget l.lines l.source
