-- What was written, with what is still to come, is all; and the sink has not failed.
use Rattle.std.proofs.Common.{◌≡◌}
use Rattle.std.specs.List.{flat_map}
use Rattle.replica_texts.specs.Messages.{record_text}
use Rattle.replica_texts.proofs.WrittenPieceFacts.{Wrote}
use Rattle.replica_texts.proofs.give_writer.write_records.Given as goal

abbrev pub invariant-loop-domain : goal.invariant-loop-domain
invariant-loop-domain g l = record {
  written : Wrote (g.W.Sink.contents l.initial.sink) (g.W.Sink.contents l.sink) (flat_map record_text l.initial.domain-iterator)
      (flat_map record_text l.domain-iterator);
  fault : g.W.Sink.has_failed l.sink ≡ g.W.Sink.has_failed l.initial.sink;
}
