use Rattle.std.proofs.Common.{◌∙◌, ap, refl}
use Rattle.receipt_core.specs.Acceptance.{Meaning}
use Rattle.migration.specs.Carry.{config_for}
use Rattle.migration.proofs.CarryFacts.{carried_over, stops_first, stops_records, stops_receipts}
use Rattle.migration.proofs.carrying.carry.Goals as goal

pub returns-in_err-closure-clause-stops : goal.returns-in_err-closure-clause-stops
returns-in_err-closure-clause-stops g c =
    let m = (g.C.Closure.state c.args.held.now).meaning in
    λ bad. stops_first c.args.choice (config_for m c.args.config.now) m (g.E.Sink.contents c.args.lines.now)

pub returns-in_err-records-clause-stops : goal.returns-in_err-records-clause-stops
returns-in_err-records-clause-stops g c =
    let k = config_for (g.C.Closure.state c.args.held.now).meaning c.args.config.now in
    λ bad. stops_records c.args.choice k (g.C.Closure.state c.in_ok-closure.closure).meaning.config
    (g.C.Closure.state c.args.held.now).meaning (g.E.Sink.contents c.args.lines.now) (g.E.Sink.contents c.carry_records.new.lines)
    (ap (λ (m : Meaning). m.config) c.in_ok-closure.ensures.meaning) (c.in_err-records.ensures.stops refl)

pub returns-in_err-receipts-clause-stops : goal.returns-in_err-receipts-clause-stops
returns-in_err-receipts-clause-stops g c =
    let k = config_for (g.C.Closure.state c.args.held.now).meaning c.args.config.now in
    let config = ap (λ (m : Meaning). m.config) c.in_ok-closure.ensures.meaning in
    λ bad. stops_receipts c.args.choice k (g.C.Closure.state c.in_ok-closure.closure).meaning.config
    (g.C.Closure.state c.carry_records.new.closure).meaning.config
    (g.C.Closure.state c.args.held.now).meaning (g.C.Closure.state c.carry_records.new.closure).meaning.records
    (g.E.Sink.contents c.args.lines.now) (g.E.Sink.contents c.carry_records.new.lines) (g.E.Sink.contents c.carry_chosen.new.lines)
    c.in_ok-records.records config (c.in_ok-records.ensures.config ∙ config) c.in_ok-records.ensures.ok (c.in_err-receipts.ensures.stops refl)

pub returns-clause-carried : goal.returns-clause-carried
returns-clause-carried g c =
    let k = config_for (g.C.Closure.state c.args.held.now).meaning c.args.config.now in
    let config = ap (λ (m : Meaning). m.config) c.in_ok-closure.ensures.meaning in
    carried_over c.args.choice k (g.C.Closure.state c.in_ok-closure.closure).meaning.config
    (g.C.Closure.state c.carry_records.new.closure).meaning.config
    (g.C.Closure.state c.args.held.now).meaning (g.C.Closure.state c.carry_chosen.new.closure).meaning
    (g.C.Closure.state c.carry_records.new.closure).meaning.records
    (g.E.Sink.contents c.args.lines.now) (g.E.Sink.contents c.carry_records.new.lines) (g.E.Sink.contents c.carry_chosen.new.lines)
    c.in_ok-records.records c.in_ok-receipts.receipts config (c.in_ok-records.ensures.config ∙ config)
    c.config-valid.ensures.valid c.in_ok-receipts.ensures.config c.in_ok-receipts.ensures.records
    c.in_ok-records.ensures.ok c.in_ok-receipts.ensures.ok
