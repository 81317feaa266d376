-- This many lines were read, these are held, and the number and what is left fit 64 bits together.
use Rattle.std.proofs.Common.{◌≡◌, ◌+◌, ◌<◌, ◌^◌}
use Rattle.byte_lines.specs.Streams.{stream_of, left_of}
use Rattle.replica_journal.proofs.JournalFacts.{HasReadMore}
use Rattle.replica_journal.proofs.journal_reader.read_entries.Given as goal

abbrev pub invariant-lines : goal.invariant-lines
invariant-lines g l = record {
  part : HasReadMore (g.C.Closure.state l.initial.closure).meaning (stream_of g.R.Source.remaining l.initial.lines l.initial.source)
      l.read (g.C.Closure.state l.closure).meaning (stream_of g.R.Source.remaining l.lines l.source);
  counted : l.read + left_of g.R.Source.budget l.lines l.source < 2 ^ 64;
  fault : g.R.Source.has_failed l.source ≡ g.R.Source.has_failed l.initial.source;
}

abbrev pub decreases-lines : goal.decreases-lines
decreases-lines g l = left_of g.R.Source.budget l.lines l.source
