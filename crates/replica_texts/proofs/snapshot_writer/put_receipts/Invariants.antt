-- What was written, with the lines of the receipts still to come, is the text of all.
use Rattle.std.proofs.Common.{◌≡◌, map}
use Rattle.receipt_core.specs.Receipt.{line}
use Rattle.replica_texts.specs.Snapshots.{text_of_lines}
use Rattle.replica_texts.specs.Inside.WritingSteps.{WrittenSoFar}
use Rattle.replica_texts.proofs.snapshot_writer.put_receipts.Given as goal

abbrev pub invariant-receipts : goal.invariant-receipts
invariant-receipts g l = record {
  written : WrittenSoFar (g.W.Sink.contents l.initial.sink) (g.W.Sink.contents l.sink)
      (text_of_lines (map line l.receipt-iterator)) (text_of_lines (map line l.initial.receipt-iterator));
  fault : g.W.Sink.has_failed l.sink ≡ g.W.Sink.has_failed l.initial.sink;
}
