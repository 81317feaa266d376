use Rattle.std.proofs.Common.{◌≡◌, ℕ, List, ap, ◌∙◌, subst, map, rules}
use Rattle.std.specs.Io.KnownBytes.{Appends}
use Rattle.byte_lines.specs.Device.{AppendsBeginning}
use Rattle.receipt_core.specs.Receipt.{line, distrust_line}
use Rattle.replica_texts.specs.Snapshots.{header_line, count_line, ended, text_of_lines}
use Rattle.replica_texts.specs.declared.format.Format.TheVariants.{Second}
use Rattle.replica_core.specs.declared.error.SyncError.TheVariants.{NoMemory}
use Rattle.replica_texts.proofs.WritingFacts.{nothing, refused_write, in_records, in_receipts, in_count, four, parts_of_text}
use Rattle.replica_texts.proofs.snapshot_writer.write_snapshot.Goals as goal

pub returns-in_err-records-clause-writes : goal.returns-in_err-records-clause-writes
returns-in_err-records-clause-writes g c =
    let m = (g.C.Closure.state c.args.closure.now).meaning in
    let a = g.W.Sink.contents c.args.sink.now in
    let b = g.W.Sink.contents c.put_line.new.sink in
    let h = ended (header_line Second m.config) in
    let r = text_of_lines (map distrust_line m.records) in
    let t = text_of_lines (map line m.held) in
    let k = ended (count_line Second m) in
    let header : Appends a b h =
    subst (λ (x : List ℕ). Appends a b (ended x))
    (c.in_ok-header.ensures ∙ ap (header_line Second) c.config.ensures.config) c.in_ok-put_line.ensures.writes.all
    in
    let d = g.W.Sink.contents c.put_records.new.sink in
    refused_write c.from_residual-in_err-records.result c.in_err-records.field-0.0 a d _
    c.from_residual-in_err-records.ensures.1 c.in_err-records.ensures.writes.cause
    (subst (AppendsBeginning a d) (parts_of_text m)
    (in_records c.pieces.ensures.both c.pieces.ensures.in_first c.pieces.ensures.in_second a b d h r t k header
    c.in_err-records.ensures.writes.begun))

pub returns-in_err-put_receipts-clause-writes : goal.returns-in_err-put_receipts-clause-writes
returns-in_err-put_receipts-clause-writes g c =
    let m = (g.C.Closure.state c.args.closure.now).meaning in
    let a = g.W.Sink.contents c.args.sink.now in
    let b = g.W.Sink.contents c.put_line.new.sink in
    let h = ended (header_line Second m.config) in
    let r = text_of_lines (map distrust_line m.records) in
    let t = text_of_lines (map line m.held) in
    let k = ended (count_line Second m) in
    let header : Appends a b h =
    subst (λ (x : List ℕ). Appends a b (ended x))
    (c.in_ok-header.ensures ∙ ap (header_line Second) c.config.ensures.config) c.in_ok-put_line.ensures.writes.all
    in
    let d = g.W.Sink.contents c.put_records.new.sink in
    let e = g.W.Sink.contents c.put_receipts.new.sink in
    refused_write c.from_residual-in_err-put_receipts.result c.in_err-put_receipts.field-0.0 a e _
    c.from_residual-in_err-put_receipts.ensures.1 c.in_err-put_receipts.ensures.writes.cause
    (subst (AppendsBeginning a e) (parts_of_text m)
    (in_receipts c.pieces.ensures.both c.pieces.ensures.in_first c.pieces.ensures.in_second a b d e h r t k header
    c.in_ok-records.ensures.writes.all c.in_err-put_receipts.ensures.writes.begun))

pub returns-in_err-count-clause-writes : goal.returns-in_err-count-clause-writes
returns-in_err-count-clause-writes g c =
    let m = (g.C.Closure.state c.args.closure.now).meaning in
    let a = g.W.Sink.contents c.args.sink.now in
    let b = g.W.Sink.contents c.put_line.new.sink in
    let h = ended (header_line Second m.config) in
    let r = text_of_lines (map distrust_line m.records) in
    let t = text_of_lines (map line m.held) in
    let k = ended (count_line Second m) in
    let header : Appends a b h =
    subst (λ (x : List ℕ). Appends a b (ended x))
    (c.in_ok-header.ensures ∙ ap (header_line Second) c.config.ensures.config) c.in_ok-put_line.ensures.writes.all
    in
    let d = g.W.Sink.contents c.put_records.new.sink in
    let e = g.W.Sink.contents c.put_receipts.new.sink in
    refused_write c.from_residual-in_err-count.result NoMemory a e _ c.from_residual-in_err-count.ensures.1 tt
    (subst (AppendsBeginning a e) (parts_of_text m)
    (in_count c.pieces.ensures.both c.pieces.ensures.in_first c.pieces.ensures.in_second a b d e e h r t k header
    c.in_ok-records.ensures.writes.all c.in_ok-put_receipts.ensures.writes.all (nothing c.pieces.ensures.none e k)))

pub returns-in_err-put_line-2-clause-writes : goal.returns-in_err-put_line-2-clause-writes
returns-in_err-put_line-2-clause-writes g c =
    let m = (g.C.Closure.state c.args.closure.now).meaning in
    let a = g.W.Sink.contents c.args.sink.now in
    let b = g.W.Sink.contents c.put_line.new.sink in
    let h = ended (header_line Second m.config) in
    let r = text_of_lines (map distrust_line m.records) in
    let t = text_of_lines (map line m.held) in
    let k = ended (count_line Second m) in
    let header : Appends a b h =
    subst (λ (x : List ℕ). Appends a b (ended x))
    (c.in_ok-header.ensures ∙ ap (header_line Second) c.config.ensures.config) c.in_ok-put_line.ensures.writes.all
    in
    let d = g.W.Sink.contents c.put_records.new.sink in
    let e = g.W.Sink.contents c.put_receipts.new.sink in
    let f = g.W.Sink.contents c.put_line-2.new.sink in
    let same : c.in_ok-count.count.items ≡ count_line Second m = first_of (cc, search rules) in
    refused_write c.from_residual-in_err-put_line-2.result c.in_err-put_line-2.field-0.0 a f _
    c.from_residual-in_err-put_line-2.ensures.1 c.in_err-put_line-2.ensures.writes.cause
    (subst (AppendsBeginning a f) (parts_of_text m)
    (in_count c.pieces.ensures.both c.pieces.ensures.in_first c.pieces.ensures.in_second a b d e f h r t k header
    c.in_ok-records.ensures.writes.all c.in_ok-put_receipts.ensures.writes.all
    (subst (λ (x : List ℕ). AppendsBeginning e f (ended x)) same c.in_err-put_line-2.ensures.writes.begun)))

pub returns-clause-writes : goal.returns-clause-writes
returns-clause-writes g c =
    let m = (g.C.Closure.state c.args.closure.now).meaning in
    let a = g.W.Sink.contents c.args.sink.now in
    let b = g.W.Sink.contents c.put_line.new.sink in
    let h = ended (header_line Second m.config) in
    let r = text_of_lines (map distrust_line m.records) in
    let t = text_of_lines (map line m.held) in
    let k = ended (count_line Second m) in
    let header : Appends a b h =
    subst (λ (x : List ℕ). Appends a b (ended x))
    (c.in_ok-header.ensures ∙ ap (header_line Second) c.config.ensures.config) c.in_ok-put_line.ensures.writes.all
    in
    let d = g.W.Sink.contents c.put_records.new.sink in
    let e = g.W.Sink.contents c.put_receipts.new.sink in
    let f = g.W.Sink.contents c.put_line-2.new.sink in
    let same : c.in_ok-count.count.items ≡ count_line Second m = first_of (cc, search rules) in
    let last : Appends e f k = subst (λ (x : List ℕ). Appends e f (ended x)) same c.in_ok-put_line-2.ensures.writes.all in
    record {
      all = subst (Appends a f) (parts_of_text m)
          (four c.pieces.ensures.both c.pieces.ensures.in_first c.pieces.ensures.in_second a b d e f h r t k header
          c.in_ok-records.ensures.writes.all c.in_ok-put_receipts.ensures.writes.all last);
      begun = subst (AppendsBeginning a f) (parts_of_text m)
          (in_count c.pieces.ensures.both c.pieces.ensures.in_first c.pieces.ensures.in_second a b d e f h r t k header
          c.in_ok-records.ensures.writes.all c.in_ok-put_receipts.ensures.writes.all
          (subst (λ (x : List ℕ). AppendsBeginning e f (ended x)) same c.in_ok-put_line-2.ensures.writes.begun));
      cause = tt;
    }
