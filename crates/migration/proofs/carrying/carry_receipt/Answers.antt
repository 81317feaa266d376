use Rattle.std.proofs.Common.{subst}
use Rattle.receipt_core.specs.Receipt.{Receipt}
use Rattle.closure_core.specs.Changes.{TakesOk}
use Rattle.closure_core.specs.Refusals.{IsOfUnknownDomain, IsOfWrongEndpoint, IsBelowFloor}
use Rattle.migration.proofs.CarryFacts.{receipt_goes, unknown_stays, wrong_stays, low_stays, unknown_stops, wrong_stops, low_stops}
use Rattle.migration.proofs.carrying.carry_receipt.Goals as goal

pub returns-in-Ok-clause-ok : goal.returns-in-Ok-clause-ok
returns-in-Ok-clause-ok g c =
    let old = g.C.Closure.state c.args.closure.now in
    let new = g.C.Closure.state c.take.new.self in
    receipt_goes c.sets.ensures.receipts old new c.args.receipt.now c.in-Ok.field-0 (g.E.Sink.contents c.args.lines.now)
    c.config-valid.ensures.valid c.domain-form.ensures.form
    (subst (λ (r : Receipt). TakesOk old r new c.in-Ok.field-0) c.in_ok-try_clone.ensures c.in-Ok.ensures)

pub returns-in-UnknownDomain-clause-ok : goal.returns-in-UnknownDomain-clause-ok
returns-in-UnknownDomain-clause-ok g c =
    let refused = rw c.in-UnknownDomain.is at c.in-Err.ensures.cause in
    unknown_stays (g.C.Closure.state c.args.closure.now).meaning (g.C.Closure.state c.take.new.self).meaning c.args.receipt.now
    (g.E.Sink.contents c.args.lines.now) (g.E.Sink.contents c.leave_out_receipt.new.lines) c.leave_out_receipt.result
    (subst (λ (r : Receipt). IsOfUnknownDomain (g.C.Closure.state c.args.closure.now).meaning.config r) c.in_ok-try_clone.ensures refused)
    c.in-Err.ensures.unchanged.meaning c.leave_out_receipt.ensures.ok

pub returns-in-UnknownDomain-clause-stops : goal.returns-in-UnknownDomain-clause-stops
returns-in-UnknownDomain-clause-stops g c =
    let refused = rw c.in-UnknownDomain.is at c.in-Err.ensures.cause in
    λ bad. unknown_stops (g.C.Closure.state c.args.closure.now).meaning.config c.args.receipt.now (g.E.Sink.contents c.args.lines.now)
    (g.E.Sink.contents c.leave_out_receipt.new.lines)
    (subst (λ (r : Receipt). IsOfUnknownDomain (g.C.Closure.state c.args.closure.now).meaning.config r) c.in_ok-try_clone.ensures refused)
    (c.leave_out_receipt.ensures.begun bad)

pub returns-in-WrongEndpoint-clause-ok : goal.returns-in-WrongEndpoint-clause-ok
returns-in-WrongEndpoint-clause-ok g c =
    let refused = rw c.in-WrongEndpoint.is at c.in-Err.ensures.cause in
    wrong_stays (g.C.Closure.state c.args.closure.now).meaning (g.C.Closure.state c.take.new.self).meaning c.args.receipt.now
    (g.E.Sink.contents c.args.lines.now) (g.E.Sink.contents c.leave_out_receipt-in-WrongEndpoint.new.lines)
    c.leave_out_receipt-in-WrongEndpoint.result c.requires.config
    (subst (λ (r : Receipt). IsOfWrongEndpoint (g.C.Closure.state c.args.closure.now).meaning.config r) c.in_ok-try_clone.ensures refused)
    c.in-Err.ensures.unchanged.meaning c.leave_out_receipt-in-WrongEndpoint.ensures.ok

pub returns-in-WrongEndpoint-clause-stops : goal.returns-in-WrongEndpoint-clause-stops
returns-in-WrongEndpoint-clause-stops g c =
    let refused = rw c.in-WrongEndpoint.is at c.in-Err.ensures.cause in
    λ bad. wrong_stops (g.C.Closure.state c.args.closure.now).meaning.config c.args.receipt.now (g.E.Sink.contents c.args.lines.now)
    (g.E.Sink.contents c.leave_out_receipt-in-WrongEndpoint.new.lines)
    (subst (λ (r : Receipt). IsOfWrongEndpoint (g.C.Closure.state c.args.closure.now).meaning.config r) c.in_ok-try_clone.ensures refused)
    (c.leave_out_receipt-in-WrongEndpoint.ensures.begun bad)

pub returns-in-BelowFloor-clause-ok : goal.returns-in-BelowFloor-clause-ok
returns-in-BelowFloor-clause-ok g c =
    let refused = rw c.in-BelowFloor.is at c.in-Err.ensures.cause in
    low_stays (g.C.Closure.state c.args.closure.now).meaning (g.C.Closure.state c.take.new.self).meaning c.args.receipt.now
    (g.E.Sink.contents c.args.lines.now) (g.E.Sink.contents c.leave_out_receipt-in-BelowFloor.new.lines)
    c.leave_out_receipt-in-BelowFloor.result
    (subst (λ (r : Receipt). IsBelowFloor (g.C.Closure.state c.args.closure.now).meaning.config r) c.in_ok-try_clone.ensures refused)
    c.in-Err.ensures.unchanged.meaning c.leave_out_receipt-in-BelowFloor.ensures.ok

pub returns-in-BelowFloor-clause-stops : goal.returns-in-BelowFloor-clause-stops
returns-in-BelowFloor-clause-stops g c =
    let refused = rw c.in-BelowFloor.is at c.in-Err.ensures.cause in
    λ bad. low_stops (g.C.Closure.state c.args.closure.now).meaning.config c.args.receipt.now (g.E.Sink.contents c.args.lines.now)
    (g.E.Sink.contents c.leave_out_receipt-in-BelowFloor.new.lines)
    (subst (λ (r : Receipt). IsBelowFloor (g.C.Closure.state c.args.closure.now).meaning.config r) c.in_ok-try_clone.ensures refused)
    (c.leave_out_receipt-in-BelowFloor.ensures.begun bad)
