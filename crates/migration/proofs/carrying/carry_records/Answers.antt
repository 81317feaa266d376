use Rattle.std.proofs.Common.{◌≡◌, List, ap, ◌∙◌, subst, length, arith, rules, refl}
use Rattle.receipt_core.specs.declared.distrust.Distrust.{Distrust}
use Rattle.receipt_core.proofs.LimitFacts.{record_limit-most}
use Rattle.migration.specs.Carry.{ReportsRecord}
use Rattle.fed_config.specs.Configuration.{Configuration, HasDomain}
use Rattle.migration.specs.Inside.Carrying.{sink_run, SortsItem, StopsAtItem, HasSorted, StopsSorting}
use Rattle.migration.proofs.CarryFacts.{sorted_none, sorted_more, sorted_all, sorted_few, sorted_fits, sorted_place, sorted_stops}
use Rattle.migration.proofs.LimitFacts.{record_place}
use Rattle.migration.proofs.carrying.carry_records.Goals as goal

pub records-init : goal.records-init
records-init g c =
    let k = (g.C.Closure.state c.args.closure.now).meaning.config in
    record {
      sorted = sorted_none (λ (y : Distrust). HasDomain k y.domain) (ReportsRecord k)
          c.into_iter-domain-iterator.result (g.C.Closure.state c.args.closure.now).meaning.records
          (g.E.Sink.contents c.args.lines.now) c.requires.none;
      config = refl;
      held = refl;
      fault = refl;
    }

pub returns-in_err-count-clause-stops : goal.returns-in_err-count-clause-stops
returns-in_err-count-clause-stops g c =
    let k = (g.C.Closure.state c.args.closure.now).meaning.config in
    let start = g.E.Sink.contents c.args.lines.now in
    let then = g.E.Sink.contents c.records.lines in
    let later = g.E.Sink.contents c.carry_record.new.lines in
    let x : Distrust = record { domain = c.in-Some.domain.now; key = c.in-Some.key.now } in
    let all : c.into_iter-domain-iterator.result ≡ (g.C.Closure.state c.args.held.now).meaning.records = first_of (cc, search rules) in
    λ bad. subst (λ (items : List Distrust). StopsSorting (λ (y : Distrust). HasDomain k y.domain) (ReportsRecord k) items (sink_run start later)) all
    (sorted_stops (λ (y : Distrust). HasDomain k y.domain) (ReportsRecord k)
    c.into_iter-domain-iterator.result c.records.domain-iterator c.next.new.self
    (g.C.Closure.state c.records.closure).meaning.records x start then later c.records.count c.in-Some.ensures.steps c.records.invariant.sorted
    (subst (λ (k : Configuration). StopsAtItem (ReportsRecord k) x (sink_run then later)) c.records.invariant.config (c.in_err-count.ensures.stops refl)))

pub carry_record-requires : goal.carry_record-requires
carry_record-requires g c =
    let all : c.into_iter-domain-iterator.result ≡ (g.C.Closure.state c.args.held.now).meaning.records = first_of (cc, search rules) in
    let old = (g.C.Closure.state c.records.closure).meaning in
    let place = sorted_place _ _ c.into_iter-domain-iterator.result c.records.domain-iterator c.next.new.self old.records
    (record { domain = c.in-Some.domain.now; key = c.in-Some.key.now })
    (sink_run (g.E.Sink.contents c.args.lines.now) (g.E.Sink.contents c.records.lines))
    c.records.count c.in-Some.ensures.steps c.records.invariant.sorted in
    let size = ap length all in
    record {
      place = record_place old (g.C.Closure.state c.args.held.now).meaning (record { domain = c.in-Some.domain.now; key = c.in-Some.key.now })
          c.config-valid.ensures.valid (ap (λ (k : Configuration). k.limits) c.records.invariant.config ∙ c.requires.limits)
          (omega (arith, place, size));
    }

pub overflow_add-count : goal.overflow_add-count
overflow_add-count g c =
    let k = (g.C.Closure.state c.records.closure).meaning.config in
    let start = g.E.Sink.contents c.args.lines.now in
    let then = g.E.Sink.contents c.records.lines in
    let later = g.E.Sink.contents c.carry_record.new.lines in
    let x : Distrust = record { domain = c.in-Some.domain.now; key = c.in-Some.key.now } in
    let all : c.into_iter-domain-iterator.result ≡ (g.C.Closure.state c.args.held.now).meaning.records = first_of (cc, search rules) in
    let now = (g.C.Closure.state c.carry_record.new.closure).meaning.records in
    let item = subst (λ (k : Configuration). SortsItem (λ (y : Distrust). HasDomain k y.domain) (ReportsRecord k) x
    (g.C.Closure.state c.records.closure).meaning.records now (sink_run then later)
    c.in_ok-count.field-0) c.records.invariant.config c.in_ok-count.ensures.ok in
    let low = sorted_fits _ _ c.into_iter-domain-iterator.result c.records.domain-iterator c.next.new.self
    (g.C.Closure.state c.records.closure).meaning.records now x (sink_run start then) (sink_run then later) c.records.count c.in_ok-count.field-0
    c.in-Some.ensures.steps c.records.invariant.sorted item in
    let few = c.config-valid.ensures.valid.few_records in
    let most = record_limit-most (g.C.Closure.state c.args.held.now).meaning.config in
    let size = ap length all in
    omega (arith, low, few, most, size)

pub records-preserved : goal.records-preserved
records-preserved g c =
    let k = (g.C.Closure.state c.args.closure.now).meaning.config in
    let start = g.E.Sink.contents c.args.lines.now in
    let then = g.E.Sink.contents c.records.lines in
    let later = g.E.Sink.contents c.carry_record.new.lines in
    let x : Distrust = record { domain = c.in-Some.domain.now; key = c.in-Some.key.now } in
    let now = (g.C.Closure.state c.carry_record.new.closure).meaning.records in
    record {
      sorted = sorted_more (λ (y : Distrust). HasDomain k y.domain) (ReportsRecord k)
          c.into_iter-domain-iterator.result c.records.domain-iterator c.next.new.self
          (g.C.Closure.state c.records.closure).meaning.records now x start then later c.records.count c.in_ok-count.field-0
          c.in-Some.ensures.steps c.records.invariant.sorted
          (subst (λ (k : Configuration). SortsItem (λ (y : Distrust). HasDomain k y.domain) (ReportsRecord k) x
          (g.C.Closure.state c.records.closure).meaning.records now (sink_run then later)
          c.in_ok-count.field-0) c.records.invariant.config c.in_ok-count.ensures.ok);
      config = c.in_ok-count.ensures.config ∙ c.records.invariant.config;
      held = c.in_ok-count.ensures.held ∙ c.records.invariant.held;
      fault = c.in_ok-count.ensures.fault ∙ c.records.invariant.fault;
    }

pub returns-clause-ok : goal.returns-clause-ok
returns-clause-ok g c =
    let k = (g.C.Closure.state c.args.closure.now).meaning.config in
    let sink = sink_run (g.E.Sink.contents c.args.lines.now) (g.E.Sink.contents c.records.lines) in
    let kept = (g.C.Closure.state c.records.closure).meaning.records in
    let all : c.into_iter-domain-iterator.result ≡ (g.C.Closure.state c.args.held.now).meaning.records = first_of (cc, search rules) in
    subst (λ (items : List Distrust). HasSorted (λ (y : Distrust). HasDomain k y.domain) (ReportsRecord k) items kept sink c.records.count) all
    (sorted_all (λ (y : Distrust). HasDomain k y.domain) (ReportsRecord k)
    c.into_iter-domain-iterator.result c.records.domain-iterator kept sink c.records.count c.in-None.ensures.steps.0
    c.records.invariant.sorted)

pub returns-clause-few : goal.returns-clause-few
returns-clause-few g c =
    let all : c.into_iter-domain-iterator.result ≡ (g.C.Closure.state c.args.held.now).meaning.records = first_of (cc, search rules) in
    let low = sorted_few _ _ _ _ _ _ _ c.records.invariant.sorted in
    let few = c.config-valid.ensures.valid.few_records in
    let most = record_limit-most (g.C.Closure.state c.args.held.now).meaning.config in
    let size = ap length all in
    omega (arith, low, few, most, size)
