use Rattle.std.proofs.Common.{ap, inl, subst}
use Rattle.receipt_core.specs.Acceptance.{Meaning}
use Rattle.byte_lines.specs.Streams.{kept}
use Rattle.replica_texts.specs.Snapshots.{RefusesSnapshot}
use Rattle.replica_texts.proofs.SnapshotFacts.{fresh, nothing_left, refused_by, held_refused, end_refused, snapshot_read}
use Rattle.replica_texts.proofs.snapshot_reader.read_snapshot.Goals as goal

pub returns-in_err-format-clause-refused : goal.returns-in_err-format-clause-refused
returns-in_err-format-clause-refused g c =
    let known = g.R.Source.remaining c.args.source.now in
    let e = c.in_err-format.field-0.0 in
    refused_by c.from_residual.result (RefusesSnapshot c.args.config.now known) e c.from_residual.ensures.1
    (subst (λ s. RefusesSnapshot c.args.config.now s e) (fresh known (kept c.new-lines.result) c.new-lines.ensures) (inl c.in_err-format.ensures.refused))

pub returns-in_err-number-clause-refused : goal.returns-in_err-number-clause-refused
returns-in_err-number-clause-refused g c =
    let known = g.R.Source.remaining c.args.source.now in
    let e = c.in_err-number.field-0.0 in
    refused_by c.from_residual-in_err-number.result (RefusesSnapshot c.args.config.now known) e c.from_residual-in_err-number.ensures.1
    (held_refused c.args.config.now (g.C.Closure.state c.in_ok-closure.closure).meaning.config c.in_ok-format.format
    known _ _ e (fresh known (kept c.new-lines.result) c.new-lines.ensures)
    (ap (λ (m : Meaning). m.config) c.in_ok-closure.ensures) c.in_ok-format.ensures.ok c.in_err-number.ensures.refused)

pub returns-in_err-read_end-clause-refused : goal.returns-in_err-read_end-clause-refused
returns-in_err-read_end-clause-refused g c =
    let known = g.R.Source.remaining c.args.source.now in
    let e = c.in_err-read_end.field-0.0 in
    refused_by c.from_residual-in_err-read_end.result (RefusesSnapshot c.args.config.now known) e c.from_residual-in_err-read_end.ensures.1
    (end_refused c.args.config.now (g.C.Closure.state c.in_ok-closure.closure).meaning.config c.in_ok-format.format
    (g.C.Closure.state c.read_held.new.closure).meaning known _ _ _ c.in_ok-number.number e
    (fresh known (kept c.new-lines.result) c.new-lines.ensures) (ap (λ (m : Meaning). m.config) c.in_ok-closure.ensures)
    c.in_ok-format.ensures.ok c.in_ok-number.ensures.ok c.in_err-read_end.ensures.refused)

pub returns-clause-ok : goal.returns-clause-ok
returns-clause-ok g c =
    let known = g.R.Source.remaining c.args.source.now in
    snapshot_read c.args.config.now (g.C.Closure.state c.in_ok-closure.closure).meaning.config c.in_ok-format.format
    (g.C.Closure.state c.read_held.new.closure).meaning known _ _ _ c.in_ok-number.number
    (fresh known (kept c.new-lines.result) c.new-lines.ensures) (ap (λ (m : Meaning). m.config) c.in_ok-closure.ensures)
    c.in_ok-format.ensures.ok c.in_ok-number.ensures.ok c.in_ok-read_end.ensures.ok

pub returns-clause-ends : goal.returns-clause-ends
returns-clause-ends g c = nothing_left (g.R.Source.remaining c.read_end.new.source) (kept c.read_end.new.lines) c.in_ok-read_end.ensures.ends
