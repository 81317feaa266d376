use Rattle.std.proofs.Common.{◌≡◌, ℕ, List, ap, ◌∙◌, subst, map, length, arith, rules}
use Rattle.std.specs.Io.KnownBytes.{Appends}
use Rattle.std.proofs.lemmas.List.Concat.{flat_map-cons}
use Rattle.byte_lines.specs.Device.{AppendsBeginning}
use Rattle.receipt_core.specs.declared.distrust.Distrust.{Distrust}
use Rattle.receipt_core.specs.Receipt.{distrust_line}
use Rattle.replica_texts.specs.Snapshots.{ended, text_of_lines}
use Rattle.replica_core.specs.declared.error.SyncError.TheVariants.{NoMemory}
use Rattle.replica_texts.proofs.WritingFacts.{begun_before, begun_in, finished, nothing, one_more, refused_write}
use Rattle.replica_texts.proofs.snapshot_writer.put_records.Goals as goal

pub returns-in_err-text-clause-writes : goal.returns-in_err-text-clause-writes
returns-in_err-text-clause-writes g c =
    let start = g.W.Sink.contents c.args.sink.now in
    let now = g.W.Sink.contents c.records.sink in
    let all : c.into_iter-domain-iterator.result ≡ (g.C.Closure.state c.args.closure.now).meaning.records = first_of (cc, search rules) in
    let whole = text_of_lines (map distrust_line c.into_iter-domain-iterator.result) in
    refused_write c.from_residual.result NoMemory start now _ c.from_residual.ensures.1 tt
    (subst (λ (items : List Distrust). AppendsBeginning start now (text_of_lines (map distrust_line items))) all
    (begun_before c.pieces.ensures.in_second (nothing c.pieces.ensures.none) start now _ whole c.records.invariant.written))

pub returns-in_err-put_line-clause-writes : goal.returns-in_err-put_line-clause-writes
returns-in_err-put_line-clause-writes g c =
    let start = g.W.Sink.contents c.args.sink.now in
    let now = g.W.Sink.contents c.records.sink in
    let all : c.into_iter-domain-iterator.result ≡ (g.C.Closure.state c.args.closure.now).meaning.records = first_of (cc, search rules) in
    let whole = text_of_lines (map distrust_line c.into_iter-domain-iterator.result) in
    let x : Distrust = record { domain = c.in-Some.domain.now; key = c.in-Some.key.now } in
    let new = g.W.Sink.contents c.put_line.new.sink in
    let later = text_of_lines (map distrust_line c.next.new.self) in
    let first = ap (λ (items : List Distrust). text_of_lines (map distrust_line items)) c.in-Some.ensures.steps
    ∙ flat_map-cons ended (distrust_line x) (map distrust_line c.next.new.self) in
    refused_write c.from_residual-in_err-put_line.result c.in_err-put_line.field-0.0 start new _
    c.from_residual-in_err-put_line.ensures.1 c.in_err-put_line.ensures.writes.cause
    (subst (λ (items : List Distrust). AppendsBeginning start new (text_of_lines (map distrust_line items))) all
    (begun_in c.pieces.ensures.both c.pieces.ensures.in_first c.pieces.ensures.in_second start now new
    (ended (distrust_line x)) later _ whole first c.records.invariant.written
    (subst (λ (t : List ℕ). AppendsBeginning now new (ended t)) c.in_ok-text.ensures c.in_err-put_line.ensures.writes.begun)))

pub records-preserved : goal.records-preserved
records-preserved g c =
    let start = g.W.Sink.contents c.args.sink.now in
    let now = g.W.Sink.contents c.records.sink in
    let all : c.into_iter-domain-iterator.result ≡ (g.C.Closure.state c.args.closure.now).meaning.records = first_of (cc, search rules) in
    let whole = text_of_lines (map distrust_line c.into_iter-domain-iterator.result) in
    let x : Distrust = record { domain = c.in-Some.domain.now; key = c.in-Some.key.now } in
    let new = g.W.Sink.contents c.put_line.new.sink in
    let later = text_of_lines (map distrust_line c.next.new.self) in
    let first = ap (λ (items : List Distrust). text_of_lines (map distrust_line items)) c.in-Some.ensures.steps
    ∙ flat_map-cons ended (distrust_line x) (map distrust_line c.next.new.self) in
    let one = ap (λ (items : List Distrust). length items) c.in-Some.ensures.steps in
    record {
      written = one_more c.pieces.ensures.both c.pieces.ensures.in_first c.pieces.ensures.in_second start now new
          (ended (distrust_line x)) later _ whole first c.records.invariant.written
          (subst (λ (t : List ℕ). Appends now new (ended t)) c.in_ok-text.ensures c.in_ok-put_line.ensures.writes.all);
      count = omega (arith, one, c.records.invariant.count);
      fault = c.in_ok-put_line.ensures.fault ∙ c.records.invariant.fault;
    }

pub returns-clause-writes : goal.returns-clause-writes
returns-clause-writes g c =
    let start = g.W.Sink.contents c.args.sink.now in
    let now = g.W.Sink.contents c.records.sink in
    let all : c.into_iter-domain-iterator.result ≡ (g.C.Closure.state c.args.closure.now).meaning.records = first_of (cc, search rules) in
    let whole = text_of_lines (map distrust_line c.into_iter-domain-iterator.result) in
    let none = ap (λ (items : List Distrust). text_of_lines (map distrust_line items)) c.in-None.ensures.steps.0 in
    record {
      all = subst (λ (items : List Distrust). Appends start now (text_of_lines (map distrust_line items))) all
          (finished start now _ whole none c.records.invariant.written);
      begun = subst (λ (items : List Distrust). AppendsBeginning start now (text_of_lines (map distrust_line items))) all
          (begun_before c.pieces.ensures.in_second (nothing c.pieces.ensures.none) start now _ whole c.records.invariant.written);
      cause = tt;
    }
