-- What was written, with the lines of the records still to come, is the text of all.
use Rattle.std.proofs.Common.{◌≡◌, ◌+◌, length, map}
use Rattle.receipt_core.specs.Receipt.{distrust_line}
use Rattle.replica_texts.specs.Snapshots.{text_of_lines}
use Rattle.replica_texts.specs.Inside.WritingSteps.{WrittenSoFar}
use Rattle.replica_texts.proofs.snapshot_writer.put_records.Given as goal

abbrev pub invariant-records : goal.invariant-records
invariant-records g l = record {
  written : WrittenSoFar (g.W.Sink.contents l.initial.sink) (g.W.Sink.contents l.sink)
      (text_of_lines (map distrust_line l.domain-iterator))
      (text_of_lines (map distrust_line l.initial.domain-iterator));
  count : l.count + length l.domain-iterator ≡ length l.initial.domain-iterator;
  fault : g.W.Sink.has_failed l.sink ≡ g.W.Sink.has_failed l.initial.sink;
}
