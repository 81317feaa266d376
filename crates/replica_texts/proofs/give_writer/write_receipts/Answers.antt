use Rattle.std.proofs.Common.{◌∙◌, ap, subst}
use Rattle.byte_lines.specs.Device.{AppendsBeginning}
use Rattle.std.specs.List.{flat_map}
use Rattle.replica_texts.specs.Messages.{receipt_text}
use Rattle.replica_texts.proofs.WrittenPieceFacts.{wrote-piece, wrote-begun, writes-err}
use Rattle.replica_texts.proofs.give_writer.write_receipts.Goals as goal

pub loop-receipt-preserved : goal.loop-receipt-preserved
loop-receipt-preserved g c = record {
  written = wrote-piece (g.W.Sink.contents c.args.sink.now) (g.W.Sink.contents c.loop-receipt.sink)
      (g.W.Sink.contents c.write_receipt.new.sink) _ (flat_map receipt_text c.loop-receipt.receipt-iterator) _
      (flat_map receipt_text c.next.new.self)
      c.loop-receipt.invariant.written (ap (flat_map receipt_text) c.in-Some.ensures.steps) c.in_ok-write_receipt.ensures.written;
  fault = c.in_ok-write_receipt.ensures.fault ∙ c.loop-receipt.invariant.fault;
}

pub returns-in_err-write_receipt-clause-written : goal.returns-in_err-write_receipt-clause-written
returns-in_err-write_receipt-clause-written g c =
    writes-err (g.W.Sink.contents c.args.sink.now) (g.W.Sink.contents c.write_receipt.new.sink) c.from_residual.result
    (flat_map receipt_text c.args.receipts) c.from_residual.ensures.0
    (subst (AppendsBeginning (g.W.Sink.contents c.args.sink.now) (g.W.Sink.contents c.write_receipt.new.sink))
    (ap (flat_map receipt_text) c.into_iter-receipt-iterator.ensures.into_iter_gives)
    (wrote-begun (g.W.Sink.contents c.args.sink.now) (g.W.Sink.contents c.loop-receipt.sink)
    (g.W.Sink.contents c.write_receipt.new.sink) _ (flat_map receipt_text c.loop-receipt.receipt-iterator) _
    (flat_map receipt_text c.next.new.self)
    c.loop-receipt.invariant.written (ap (flat_map receipt_text) c.in-Some.ensures.steps) c.in_err-write_receipt.ensures.written))
