-- One more is welcome, or is the first that is not.
use Rattle.std.proofs.Common.{◌≡◌, ◌-◌, length, get_or, take, sym, subst, arith}
use Rattle.fed_config.specs.Configuration.{Configuration, HasDomain}
use Rattle.receipt_core.specs.declared.distrust.Distrust.{Distrust}
use Rattle.receipt_core.specs.Receipt.{distrust_cmp}
use Rattle.receipt_core.specs.Rising.{with_items}
use Rattle.closure_core.specs.declared.error.TakeError.TheVariants.{UnknownDomain, Full}
use Rattle.replica_core.specs.Absorbing.{AreWelcome, of_records}
use Rattle.replica_core.specs.Inside.FreePlaces.{HasPlace, HasNoPlace}
use Rattle.replica_core.specs.Inside.Earlier.{Front, passed}
use Rattle.replica_core.proofs.EarlierFacts.{front-next}
use Rattle.replica_core.proofs.UnwelcomeFacts.{known, unknown, places-next, record-judged, record-refused}
use Rattle.replica_core.proofs.first_unwelcome.first_record.Goals as goal
use Rattle.receipt_core.specs.Limits.{record_limit}

pub returns-then-is_none : goal.returns-then-is_none
returns-then-is_none g c =
    let m = (g.C.Closure.state c.args.closure.now).meaning in
    let xs = c.args.records.now in
    let x = c.record-item.result in
    let same = c.loop-record.invariant.place in
    let own : c.config-config.result.now ≡ m.config = c.config-config.ensures.config in
    record-refused m xs c.loop-record.place x UnknownDomain (omega (arith, same, c.loop-record-test.true))
    (subst (λ i. get_or xs i x ≡ x) (sym same) (sym c.record-item.is))
    (subst (λ i. AreWelcome m (of_records (take i xs))) (sym same) c.loop-record.invariant.welcome)
    (λ has. unknown c.config-config.result.now x.domain c.domain_no.result c.domain_no.ensures c.if-is_none.ensures
    (subst (λ (k : Configuration). HasDomain k x.domain) (sym own) has))
    (λ e. absurd (cc))

pub returns-in-None : goal.returns-in-None
returns-in-None g c =
    let m = (g.C.Closure.state c.args.closure.now).meaning in
    let xs = c.args.records.now in
    let x = c.record-item.result in
    let same = c.loop-record.invariant.place in
    let own : c.config-config.result.now ≡ m.config = c.config-config.ensures.config in
    let none : HasNoPlace (record_limit m.config) (with_items distrust_cmp (take c.loop-record.place xs) m.records) x =
    subst (λ i. HasNoPlace (record_limit m.config) (with_items distrust_cmp (take i xs) m.records) x) (sym same)
    (subst (λ (f : Front Distrust). HasNoPlace (record_limit m.config) (with_items distrust_cmp (passed f) m.records) x) c.loop-record.invariant.front
    c.in-None.ensures.place) in
    record-refused m xs c.loop-record.place x Full (omega (arith, same, c.loop-record-test.true))
    (subst (λ i. get_or xs i x ≡ x) (sym same) (sym c.record-item.is))
    (subst (λ i. AreWelcome m (of_records (take i xs))) (sym same) c.loop-record.invariant.welcome)
    (record {
      domain = subst (λ (k : Configuration). HasDomain k x.domain) own
          (known c.config-config.result.now x.domain c.domains-form.result.now c.domain_no.result
          c.domains-form.ensures.all c.domain_no.ensures c.if-is_none.ensures);
      unheld = none.unheld;
      full = none.full;
    })
    (λ e. absurd (cc))

pub loop-record-preserved : goal.loop-record-preserved
loop-record-preserved g c =
    let m = (g.C.Closure.state c.args.closure.now).meaning in
    let xs = c.args.records.now in
    let x = c.record-item.result in
    let same = c.loop-record.invariant.place in
    let own : c.config-config.result.now ≡ m.config = c.config-config.ensures.config in
    let has : HasPlace distrust_cmp (record_limit m.config) (with_items distrust_cmp (take c.loop-record.record-index xs) m.records) x
    (length xs - c.loop-record.record-index) c.in-Some.more =
    subst (λ j. HasPlace distrust_cmp (record_limit m.config) (with_items distrust_cmp (take c.loop-record.record-index xs) m.records) x (length xs - j)
    c.in-Some.more) same
    (subst (λ (f : Front Distrust). HasPlace distrust_cmp (record_limit m.config) (with_items distrust_cmp (passed f) m.records) x
    (length xs - c.loop-record.place) c.in-Some.more)
    c.loop-record.invariant.front c.in-Some.ensures.place) in
    record {
      place = omega (arith, same);
      front = front-next c.loop-record.before c.place_for_record.new.before xs c.loop-record.record-index
          c.loop-record.invariant.front c.place_for_record.ensures.items c.place_for_record.ensures.count;
      places = places-next distrust_cmp (record_limit m.config) xs m.records c.loop-record.record-index c.in-Some.more x c.loop-record-test.true
          (sym c.record-item.is) has.after;
      welcome = record-judged m xs c.loop-record.record-index x c.loop-record-test.true (sym c.record-item.is) c.loop-record.invariant.welcome
          (subst (λ (k : Configuration). HasDomain k x.domain) own
          (known c.config-config.result.now x.domain c.domains-form.result.now c.domain_no.result
          c.domains-form.ensures.all c.domain_no.ensures c.if-is_none.ensures))
          has.place;
    }
