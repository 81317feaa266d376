use Rattle.std.proofs.Common.{sym, subst}
use Rattle.std.specs.Io.KnownBytes.{Consumes}
use Rattle.byte_lines.specs.Streams.{stream_of}
use Rattle.replica_core.specs.Session.{GiveMessage}
use Rattle.replica_texts.proofs.SnapshotFacts.{refused_by}
use Rattle.replica_texts.specs.Messages.{give_text}
use Rattle.replica_texts.specs.Gives.{IsGive, RefusesGive}
use Rattle.replica_texts.specs.Inside.Gathering.{body_content}
use Rattle.replica_texts.proofs.GatherFacts.{fails-after, whole-answer, whole-give}
use Rattle.replica_texts.proofs.give_reader.read_give.Goals as goal

pub returns-in_err-content-clause-refused : goal.returns-in_err-content-clause-refused
returns-in_err-content-clause-refused g c =
    let old = stream_of g.R.Source.remaining c.args.lines.now c.args.source.now in
    let middle = stream_of g.R.Source.remaining c.next_head.new.lines c.next_head.new.source in
    let new = stream_of g.R.Source.remaining c.read_content.new.lines c.read_content.new.source in
    let e = c.in_err-content.field-0.0 in
    refused_by c.from_residual-in_err-content.result (RefusesGive old new) e c.from_residual-in_err-content.ensures.1
    (fails-after old middle new c.in_ok-head.head e c.in_ok-head.ensures.ok c.in_err-content.ensures.refused)

pub returns-clause-valid : goal.returns-clause-valid
returns-clause-valid g c =
    let old = stream_of g.R.Source.remaining c.args.lines.now c.args.source.now in
    let middle = stream_of g.R.Source.remaining c.next_head.new.lines c.next_head.new.source in
    let new = stream_of g.R.Source.remaining c.read_content.new.lines c.read_content.new.source in
    subst IsGive (sym c.to_give.ensures)
    (whole-answer old middle new c.in_ok-head.head (body_content c.in_ok-content.content) c.in_ok-head.ensures.ok
    c.in_ok-content.ensures.ok)

pub returns-clause-ok : goal.returns-clause-ok
returns-clause-ok g c =
    let old = stream_of g.R.Source.remaining c.args.lines.now c.args.source.now in
    let middle = stream_of g.R.Source.remaining c.next_head.new.lines c.next_head.new.source in
    let new = stream_of g.R.Source.remaining c.read_content.new.lines c.read_content.new.source in
    subst (λ (r : GiveMessage). Consumes old new (give_text r)) (sym c.to_give.ensures)
    (whole-give old middle new c.in_ok-head.head (body_content c.in_ok-content.content) c.in_ok-head.ensures.ok c.in_ok-content.ensures.ok)
