use Rattle.std.proofs.Common.{◌∙◌, ap, subst}
use Rattle.byte_lines.specs.Device.{AppendsBeginning}
use Rattle.std.specs.List.{flat_map}
use Rattle.replica_texts.specs.Messages.{record_text}
use Rattle.replica_texts.proofs.WrittenPieceFacts.{wrote-piece, wrote-begun, writes-err}
use Rattle.replica_texts.proofs.give_writer.write_records.Goals as goal

pub loop-domain-preserved : goal.loop-domain-preserved
loop-domain-preserved g c = record {
  written = wrote-piece (g.W.Sink.contents c.args.sink.now) (g.W.Sink.contents c.loop-domain.sink)
      (g.W.Sink.contents c.write_record.new.sink) _ (flat_map record_text c.loop-domain.domain-iterator) _
      (flat_map record_text c.next.new.self)
      c.loop-domain.invariant.written (ap (flat_map record_text) c.in-Some.ensures.steps) c.in_ok-write_record.ensures.written;
  fault = c.in_ok-write_record.ensures.fault ∙ c.loop-domain.invariant.fault;
}

pub returns-in_err-write_record-clause-written : goal.returns-in_err-write_record-clause-written
returns-in_err-write_record-clause-written g c =
    writes-err (g.W.Sink.contents c.args.sink.now) (g.W.Sink.contents c.write_record.new.sink) c.from_residual.result
    (flat_map record_text c.args.distrusts) c.from_residual.ensures.0
    (subst (AppendsBeginning (g.W.Sink.contents c.args.sink.now) (g.W.Sink.contents c.write_record.new.sink))
    (ap (flat_map record_text) c.into_iter-domain-iterator.ensures.into_iter_gives)
    (wrote-begun (g.W.Sink.contents c.args.sink.now) (g.W.Sink.contents c.loop-domain.sink)
    (g.W.Sink.contents c.write_record.new.sink) _ (flat_map record_text c.loop-domain.domain-iterator) _
    (flat_map record_text c.next.new.self)
    c.loop-domain.invariant.written (ap (flat_map record_text) c.in-Some.ensures.steps) c.in_err-write_record.ensures.written))
