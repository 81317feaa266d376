-- The lines so far are those of what was read, and the last of them is known.
use Rattle.std.proofs.Common.{◌≡◌}
use Rattle.byte_lines.specs.Streams.{stream_of, left_of}
use Rattle.replica_texts.specs.Snapshots.{last_of}
use Rattle.replica_texts.specs.Gives.{content_lines}
use Rattle.replica_texts.specs.Inside.Gathering.{Gathers, body_content}
use Rattle.replica_texts.proofs.give_reader.read_content.Given as goal

abbrev pub invariant-lines : goal.invariant-lines
invariant-lines g l = record {
  gathers : Gathers l.head.count l.head.distrusts (stream_of g.R.Source.remaining l.initial.lines l.initial.source)
      (body_content l.content) (stream_of g.R.Source.remaining l.lines l.source);
  last : l.content.last.items ≡ last_of (content_lines (body_content l.content));
  fault : g.R.Source.has_failed l.source ≡ g.R.Source.has_failed l.initial.source;
}

abbrev pub decreases-lines : goal.decreases-lines
decreases-lines g l = left_of g.R.Source.budget l.lines l.source
