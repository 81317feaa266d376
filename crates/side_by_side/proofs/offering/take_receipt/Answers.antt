use Rattle.std.proofs.Common.{subst}
use Rattle.fed_config.specs.Configuration.{IsConfiguration}
use Rattle.side_by_side.proofs.StepFacts.{receipt_result}
use Rattle.side_by_side.proofs.offering.take_receipt.Goals as goal

pub returns-in-Err : goal.returns-in-Err
returns-in-Err g c =
    let old = g.C.Closure.state c.args.to.now in
    let new = g.C.Closure.state c.take.new.self in
    receipt_result old.meaning new.meaning old.room c.args.receipt c.in-Err.refused.why _ c.fate_of.result c.ok_or.result
    (subst IsConfiguration c.config-config.ensures.config c.domains-form.ensures.form) c.in-Err.ensures.cause c.in-Err.ensures.unchanged.meaning
    c.fate_of.ensures c.ok_or.ensures.value
