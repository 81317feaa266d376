use Rattle.std.proofs.Common.{◌≡◌, List, ap, ◌∙◌, subst, length, arith, rules, refl}
use Rattle.receipt_core.specs.Acceptance.{IsFitting}
use Rattle.receipt_core.specs.Receipt.{Receipt}
use Rattle.receipt_core.proofs.LimitFacts.{receipt_limit-most}
use Rattle.migration.specs.Carry.{ReportsReceipt}
use Rattle.fed_config.specs.Configuration.{Configuration}
use Rattle.migration.specs.Inside.Carrying.{sink_run, SortsItem, StopsAtItem, HasSorted, StopsSorting}
use Rattle.migration.proofs.CarryFacts.{sorted_none, sorted_more, sorted_all, sorted_few, sorted_fits, sorted_place, sorted_stops}
use Rattle.migration.proofs.LimitFacts.{receipt_place}
use Rattle.migration.proofs.carrying.carry_receipts.Goals as goal

pub receipts-init : goal.receipts-init
receipts-init g c =
    let k = (g.C.Closure.state c.args.closure.now).meaning.config in
    record {
      sorted = sorted_none (IsFitting k) (ReportsReceipt k) c.into_iter-receipt-iterator.result (g.C.Closure.state c.args.closure.now).meaning.held
          (g.E.Sink.contents c.args.lines.now) c.requires.none;
      config = refl;
      records = refl;
      fault = refl;
    }

pub returns-in_err-count-clause-stops : goal.returns-in_err-count-clause-stops
returns-in_err-count-clause-stops g c =
    let k = (g.C.Closure.state c.args.closure.now).meaning.config in
    let start = g.E.Sink.contents c.args.lines.now in
    let then = g.E.Sink.contents c.receipts.lines in
    let later = g.E.Sink.contents c.carry_receipt.new.lines in
    let x : Receipt = c.in-Some.receipt.now in
    let all : c.into_iter-receipt-iterator.result ≡ (g.C.Closure.state c.args.held.now).meaning.held = first_of (cc, search rules) in
    λ bad. subst (λ (items : List Receipt). StopsSorting (IsFitting k) (ReportsReceipt k) items (sink_run start later)) all
    (sorted_stops (IsFitting k) (ReportsReceipt k) c.into_iter-receipt-iterator.result c.receipts.receipt-iterator c.next.new.self
    (g.C.Closure.state c.receipts.closure).meaning.held x start then later c.receipts.count c.in-Some.ensures.steps c.receipts.invariant.sorted
    (subst (λ (k : Configuration). StopsAtItem (ReportsReceipt k) x (sink_run then later)) c.receipts.invariant.config (c.in_err-count.ensures.stops refl)))

pub carry_receipt-requires-clause-place : goal.carry_receipt-requires-clause-place
carry_receipt-requires-clause-place g c =
    let all : c.into_iter-receipt-iterator.result ≡ (g.C.Closure.state c.args.held.now).meaning.held = first_of (cc, search rules) in
    let old = (g.C.Closure.state c.receipts.closure).meaning in
    let place = sorted_place _ _ c.into_iter-receipt-iterator.result c.receipts.receipt-iterator c.next.new.self old.held c.in-Some.receipt.now
    (sink_run (g.E.Sink.contents c.args.lines.now) (g.E.Sink.contents c.receipts.lines))
    c.receipts.count c.in-Some.ensures.steps c.receipts.invariant.sorted in
    let size = ap length all in
    receipt_place old (g.C.Closure.state c.args.held.now).meaning c.in-Some.receipt.now c.config-valid.ensures.valid
    (ap (λ (k : Configuration). k.limits) c.receipts.invariant.config ∙ c.requires.limits) (omega (arith, place, size))

pub overflow_add-count : goal.overflow_add-count
overflow_add-count g c =
    let k = (g.C.Closure.state c.receipts.closure).meaning.config in
    let start = g.E.Sink.contents c.args.lines.now in
    let then = g.E.Sink.contents c.receipts.lines in
    let later = g.E.Sink.contents c.carry_receipt.new.lines in
    let x : Receipt = c.in-Some.receipt.now in
    let all : c.into_iter-receipt-iterator.result ≡ (g.C.Closure.state c.args.held.now).meaning.held = first_of (cc, search rules) in
    let now = (g.C.Closure.state c.carry_receipt.new.closure).meaning.held in
    let item = subst (λ (k : Configuration). SortsItem (IsFitting k) (ReportsReceipt k) x
    (g.C.Closure.state c.receipts.closure).meaning.held now (sink_run then later)
    c.in_ok-count.field-0) c.receipts.invariant.config c.in_ok-count.ensures.ok in
    let low = sorted_fits _ _ c.into_iter-receipt-iterator.result c.receipts.receipt-iterator c.next.new.self
    (g.C.Closure.state c.receipts.closure).meaning.held now x (sink_run start then) (sink_run then later) c.receipts.count c.in_ok-count.field-0
    c.in-Some.ensures.steps c.receipts.invariant.sorted item in
    let few = c.config-valid.ensures.valid.few in
    let most = receipt_limit-most (g.C.Closure.state c.args.held.now).meaning.config in
    let size = ap length all in
    omega (arith, low, few, most, size)

pub receipts-preserved : goal.receipts-preserved
receipts-preserved g c =
    let k = (g.C.Closure.state c.args.closure.now).meaning.config in
    let start = g.E.Sink.contents c.args.lines.now in
    let then = g.E.Sink.contents c.receipts.lines in
    let later = g.E.Sink.contents c.carry_receipt.new.lines in
    let x : Receipt = c.in-Some.receipt.now in
    let now = (g.C.Closure.state c.carry_receipt.new.closure).meaning.held in
    record {
      sorted = sorted_more (IsFitting k) (ReportsReceipt k) c.into_iter-receipt-iterator.result c.receipts.receipt-iterator c.next.new.self
          (g.C.Closure.state c.receipts.closure).meaning.held now x start then later c.receipts.count c.in_ok-count.field-0
          c.in-Some.ensures.steps c.receipts.invariant.sorted
          (subst (λ (k : Configuration). SortsItem (IsFitting k) (ReportsReceipt k) x
          (g.C.Closure.state c.receipts.closure).meaning.held now (sink_run then later)
          c.in_ok-count.field-0) c.receipts.invariant.config c.in_ok-count.ensures.ok);
      config = c.in_ok-count.ensures.config ∙ c.receipts.invariant.config;
      records = c.in_ok-count.ensures.records ∙ c.receipts.invariant.records;
      fault = c.in_ok-count.ensures.fault ∙ c.receipts.invariant.fault;
    }

pub returns-clause-ok : goal.returns-clause-ok
returns-clause-ok g c =
    let k = (g.C.Closure.state c.args.closure.now).meaning.config in
    let sink = sink_run (g.E.Sink.contents c.args.lines.now) (g.E.Sink.contents c.receipts.lines) in
    let kept = (g.C.Closure.state c.receipts.closure).meaning.held in
    let all : c.into_iter-receipt-iterator.result ≡ (g.C.Closure.state c.args.held.now).meaning.held = first_of (cc, search rules) in
    subst (λ (items : List Receipt). HasSorted (IsFitting k) (ReportsReceipt k) items kept sink c.receipts.count) all
    (sorted_all (IsFitting k) (ReportsReceipt k)
    c.into_iter-receipt-iterator.result c.receipts.receipt-iterator kept sink c.receipts.count c.in-None.ensures.steps.0
    c.receipts.invariant.sorted)

pub returns-clause-few : goal.returns-clause-few
returns-clause-few g c =
    let all : c.into_iter-receipt-iterator.result ≡ (g.C.Closure.state c.args.held.now).meaning.held = first_of (cc, search rules) in
    let low = sorted_few _ _ _ _ _ _ _ c.receipts.invariant.sorted in
    let few = c.config-valid.ensures.valid.few in
    let most = receipt_limit-most (g.C.Closure.state c.args.held.now).meaning.config in
    let size = ap length all in
    omega (arith, low, few, most, size)
