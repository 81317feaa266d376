use Rattle.std.proofs.Common.{◌≡◌, ◌∙◌, subst}
use Rattle.std.specs.List.{flat_map}
use Rattle.std.specs.Io.KnownBytes.{Appends}
use Rattle.byte_lines.specs.Device.{AppendsBeginning}
use Rattle.replica_texts.specs.Snapshots.{ended}
use Rattle.replica_texts.specs.Messages.{WritesText, give_header_of, give_header_text, record_text, receipt_text}
use Rattle.replica_texts.proofs.WrittenPieceFacts.{begins-first, begins-second, writes-err, writes-then}
use Rattle.replica_texts.proofs.give_writer.write_answer.Goals as goal

pub returns-in_err-write_all-clause-written : goal.returns-in_err-write_all-clause-written
returns-in_err-write_all-clause-written g c =
    let old = g.W.Sink.contents c.args.sink.now in
    let new = g.W.Sink.contents c.write_all.new.sink in
    let head = ended (give_header_text (give_header_of c.args.answer)) in
    let is : c.as_slice.result.now ≡ head = c.as_slice.ensures.value ∙ c.in_ok-header.ensures in
    writes-err old new c.from_residual-in_err-write_all.result _ c.from_residual-in_err-write_all.ensures.0
    (begins-first old new head _ (subst (AppendsBeginning old new) is c.write_all.ensures.beginning))

pub returns-in_err-write_records-clause-written : goal.returns-in_err-write_records-clause-written
returns-in_err-write_records-clause-written g c =
    let old = g.W.Sink.contents c.args.sink.now in
    let now = g.W.Sink.contents c.write_all.new.sink in
    let new = g.W.Sink.contents c.write_records.new.sink in
    let head = ended (give_header_text (give_header_of c.args.answer)) in
    let is : c.as_slice.result.now ≡ head = c.as_slice.ensures.value ∙ c.in_ok-header.ensures in
    writes-err old new c.from_residual-in_err-write_records.result _ c.from_residual-in_err-write_records.ensures.0
    (begins-second old now new head _ (subst (Appends old now) is c.in_ok-write_all.ensures.ok)
    (begins-first now new (flat_map record_text c.args.answer.content.records) _
    (subst (λ records. AppendsBeginning now new (flat_map record_text records)) c.into_parts-distrusts.ensures.records c.in_err-write_records.ensures.written)))

pub returns-clause-written : goal.returns-clause-written
returns-clause-written g c =
    let old = g.W.Sink.contents c.args.sink.now in
    let one = g.W.Sink.contents c.write_all.new.sink in
    let two = g.W.Sink.contents c.write_records.new.sink in
    let new = g.W.Sink.contents c.write_receipts.new.sink in
    let head = ended (give_header_text (give_header_of c.args.answer)) in
    let is : c.as_slice.result.now ≡ head = c.as_slice.ensures.value ∙ c.in_ok-header.ensures in
    writes-then old one new c.write_receipts.result head _ (subst (Appends old one) is c.in_ok-write_all.ensures.ok)
    (writes-then one two new c.write_receipts.result (flat_map record_text c.args.answer.content.records) (flat_map receipt_text c.args.answer.content.held)
    (subst (λ records. Appends one two (flat_map record_text records)) c.into_parts-distrusts.ensures.records c.in_ok-write_records.ensures.written)
    (subst (λ rs. WritesText two new c.write_receipts.result (flat_map receipt_text rs))
    c.into_parts-distrusts.ensures.receipts c.write_receipts.ensures.written))
