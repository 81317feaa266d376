-- What was written, with what is still to come, is all; and the sink has not failed.
use Rattle.std.proofs.Common.{◌≡◌}
use Rattle.std.specs.List.{flat_map}
use Rattle.replica_texts.specs.Messages.{receipt_text}
use Rattle.replica_texts.proofs.WrittenPieceFacts.{Wrote}
use Rattle.replica_texts.proofs.give_writer.write_receipts.Given as goal

abbrev pub invariant-loop-receipt : goal.invariant-loop-receipt
invariant-loop-receipt g l = record {
  written : Wrote (g.W.Sink.contents l.initial.sink) (g.W.Sink.contents l.sink)
      (flat_map receipt_text l.initial.receipt-iterator) (flat_map receipt_text l.receipt-iterator);
  fault : g.W.Sink.has_failed l.sink ≡ g.W.Sink.has_failed l.initial.sink;
}
