use Rattle.std.proofs.Common.{◌≡◌, ◌∙◌, subst, refl, codes}
use Rattle.std.specs.Io.KnownBytes.{Appends}
use Rattle.migration.specs.Carry.{left_out_line, left_receipt}
use Rattle.migration.proofs.carrying.leave_out_receipt.Goals as goal

pub returns-clause-ok : goal.returns-clause-ok
returns-clause-ok g c =
    let what = codes "left out receipt " in
    let text : c.as_slice.result.now ≡ left_receipt c.args.receipt.now c.args.cause.now =
    c.as_slice.ensures.value ∙ c.in_ok-line.ensures
    ∙ (λ i. left_out_line what (c.id-id.ensures i) (c.domain.ensures.domain i) c.args.cause.now) in
    (refl, subst (Appends (g.E.Sink.contents c.args.lines.now) (g.E.Sink.contents c.write_all.new.sink)) text c.in_ok-write_all.ensures.ok)
