use Rattle.std.proofs.Common.{◌≡◌, ℕ, List, ap, ◌∙◌, subst, map, rules}
use Rattle.std.specs.Io.KnownBytes.{Appends}
use Rattle.std.proofs.lemmas.List.Concat.{flat_map-cons}
use Rattle.byte_lines.specs.Device.{AppendsBeginning}
use Rattle.receipt_core.specs.Receipt.{Receipt, line}
use Rattle.replica_texts.specs.Snapshots.{ended, text_of_lines}
use Rattle.replica_core.specs.declared.error.SyncError.TheVariants.{NoMemory}
use Rattle.replica_texts.proofs.WritingFacts.{begun_before, begun_in, finished, nothing, one_more, refused_write}
use Rattle.replica_texts.proofs.snapshot_writer.put_receipts.Goals as goal

pub returns-in_err-text-clause-writes : goal.returns-in_err-text-clause-writes
returns-in_err-text-clause-writes g c =
    let start = g.W.Sink.contents c.args.sink.now in
    let now = g.W.Sink.contents c.receipts.sink in
    let all : c.into_iter-receipt-iterator.result ≡ (g.C.Closure.state c.args.closure.now).meaning.held = first_of (cc, search rules) in
    let whole = text_of_lines (map line c.into_iter-receipt-iterator.result) in
    refused_write c.from_residual.result NoMemory start now _ c.from_residual.ensures.1 tt
    (subst (λ (items : List Receipt). AppendsBeginning start now (text_of_lines (map line items))) all
    (begun_before c.pieces.ensures.in_second (nothing c.pieces.ensures.none) start now _ whole c.receipts.invariant.written))

pub returns-in_err-put_line-clause-writes : goal.returns-in_err-put_line-clause-writes
returns-in_err-put_line-clause-writes g c =
    let start = g.W.Sink.contents c.args.sink.now in
    let now = g.W.Sink.contents c.receipts.sink in
    let all : c.into_iter-receipt-iterator.result ≡ (g.C.Closure.state c.args.closure.now).meaning.held = first_of (cc, search rules) in
    let whole = text_of_lines (map line c.into_iter-receipt-iterator.result) in
    let x : Receipt = c.in-Some.receipt.now in
    let new = g.W.Sink.contents c.put_line.new.sink in
    let later = text_of_lines (map line c.next.new.self) in
    let first = ap (λ (items : List Receipt). text_of_lines (map line items)) c.in-Some.ensures.steps
    ∙ flat_map-cons ended (line x) (map line c.next.new.self) in
    refused_write c.from_residual-in_err-put_line.result c.in_err-put_line.field-0.0 start new _
    c.from_residual-in_err-put_line.ensures.1 c.in_err-put_line.ensures.writes.cause
    (subst (λ (items : List Receipt). AppendsBeginning start new (text_of_lines (map line items))) all
    (begun_in c.pieces.ensures.both c.pieces.ensures.in_first c.pieces.ensures.in_second start now new (ended (line x))
    later _ whole first c.receipts.invariant.written
    (subst (λ (t : List ℕ). AppendsBeginning now new (ended t)) c.in_ok-text.ensures c.in_err-put_line.ensures.writes.begun)))

pub receipts-preserved : goal.receipts-preserved
receipts-preserved g c =
    let start = g.W.Sink.contents c.args.sink.now in
    let now = g.W.Sink.contents c.receipts.sink in
    let all : c.into_iter-receipt-iterator.result ≡ (g.C.Closure.state c.args.closure.now).meaning.held = first_of (cc, search rules) in
    let whole = text_of_lines (map line c.into_iter-receipt-iterator.result) in
    let x : Receipt = c.in-Some.receipt.now in
    let new = g.W.Sink.contents c.put_line.new.sink in
    let later = text_of_lines (map line c.next.new.self) in
    let first = ap (λ (items : List Receipt). text_of_lines (map line items)) c.in-Some.ensures.steps
    ∙ flat_map-cons ended (line x) (map line c.next.new.self) in
    record {
      written = one_more c.pieces.ensures.both c.pieces.ensures.in_first c.pieces.ensures.in_second start now new
          (ended (line x)) later _ whole first c.receipts.invariant.written
          (subst (λ (t : List ℕ). Appends now new (ended t)) c.in_ok-text.ensures c.in_ok-put_line.ensures.writes.all);
      fault = c.in_ok-put_line.ensures.fault ∙ c.receipts.invariant.fault;
    }

pub returns-clause-writes : goal.returns-clause-writes
returns-clause-writes g c =
    let start = g.W.Sink.contents c.args.sink.now in
    let now = g.W.Sink.contents c.receipts.sink in
    let all : c.into_iter-receipt-iterator.result ≡ (g.C.Closure.state c.args.closure.now).meaning.held = first_of (cc, search rules) in
    let whole = text_of_lines (map line c.into_iter-receipt-iterator.result) in
    let none = ap (λ (items : List Receipt). text_of_lines (map line items)) c.in-None.ensures.steps.0 in
    record {
      all = subst (λ (items : List Receipt). Appends start now (text_of_lines (map line items))) all
          (finished start now _ whole none c.receipts.invariant.written);
      begun = subst (λ (items : List Receipt). AppendsBeginning start now (text_of_lines (map line items))) all
          (begun_before c.pieces.ensures.in_second (nothing c.pieces.ensures.none) start now _ whole c.receipts.invariant.written);
      cause = tt;
    }
