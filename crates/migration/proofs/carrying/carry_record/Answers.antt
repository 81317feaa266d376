use Rattle.migration.proofs.CarryFacts.{record_goes}
use Rattle.migration.proofs.carrying.carry_record.Goals as goal

pub returns-in-Ok-clause-ok : goal.returns-in-Ok-clause-ok
returns-in-Ok-clause-ok g c =
    record_goes c.sets.ensures.records (g.C.Closure.state c.args.closure.now).meaning (g.C.Closure.state c.distrust.new.self).meaning
    (record { domain = c.args.domain.now; key = c.args.key }) c.in-Ok.field-0 (g.E.Sink.contents c.args.lines.now)
    c.config-valid.ensures.valid c.in-Ok.ensures.meaning
