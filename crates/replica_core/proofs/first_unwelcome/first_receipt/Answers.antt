-- One more is welcome, or is the first that is not.
use Rattle.std.proofs.Common.{◌≡◌, ◌-◌, List, length, get_or, take, sym, subst, arith}
use Rattle.std.specs.List.{AllByRecursion}
use Rattle.fed_config.specs.Configuration.{Configuration, IsConfiguration}
use Rattle.receipt_core.specs.Receipt.{Receipt, IsReceipt, receipt_cmp}
use Rattle.receipt_core.specs.Rising.{with_items}
use Rattle.receipt_core.specs.Acceptance.{IsFitting, Meaning}
use Rattle.closure_core.specs.Refusals.{RefusesFit}
use Rattle.closure_core.specs.declared.error.TakeError.TheVariants.{Full}
use Rattle.replica_core.specs.Absorbing.{AreWelcome, of_receipts}
use Rattle.replica_core.specs.Inside.FreePlaces.{HasPlace, HasNoPlace}
use Rattle.replica_core.specs.Inside.Earlier.{Front, passed}
use Rattle.replica_core.proofs.EarlierFacts.{front-next}
use Rattle.replica_core.proofs.UnwelcomeFacts.{all-push, misfit-refused, places-next, receipt-judged, receipt-refused, take-next}
use Rattle.replica_core.proofs.first_unwelcome.first_receipt.Goals as goal
use Rattle.receipt_core.specs.Limits.{receipt_limit}

pub returns-in-Err : goal.returns-in-Err
returns-in-Err g c = λ records.
    let m : Meaning = record (g.C.Closure.state c.args.closure.now).meaning { records = records } in
    let rs = c.args.receipts.now in
    let r = c.receipt-item.result in
    let same = c.loop-receipt.invariant.place in
    let misfits = subst (λ (k : Configuration). RefusesFit k r c.in-Err.why) c.config-config.ensures.config c.in-Err.ensures.fits in
    let refused = misfit-refused (record m { held = with_items receipt_cmp (take c.loop-receipt.place rs) m.held }) r c.in-Err.why misfits in
    receipt-refused m rs c.loop-receipt.place r c.in-Err.why (omega (arith, same, c.loop-receipt-test.true))
    (subst (λ i. get_or rs i r ≡ r) (sym same) (sym c.receipt-item.is))
    (subst (λ i. AreWelcome m (of_receipts (take i rs))) (sym same) (c.loop-receipt.invariant.welcome records))
    refused.0 refused.1

pub returns-in-None : goal.returns-in-None
returns-in-None g c = λ records.
    let m : Meaning = record (g.C.Closure.state c.args.closure.now).meaning { records = records } in
    let rs = c.args.receipts.now in
    let r = c.receipt-item.result in
    let same = c.loop-receipt.invariant.place in
    let none : HasNoPlace (receipt_limit m.config) (with_items receipt_cmp (take c.loop-receipt.place rs) m.held) r =
    subst (λ i. HasNoPlace (receipt_limit m.config) (with_items receipt_cmp (take i rs) m.held) r) (sym same)
    (subst (λ (f : Front Receipt). HasNoPlace (receipt_limit m.config) (with_items receipt_cmp (passed f) m.held) r) c.loop-receipt.invariant.front
    c.in-None.ensures.place) in
    receipt-refused m rs c.loop-receipt.place r Full (omega (arith, same, c.loop-receipt-test.true))
    (subst (λ i. get_or rs i r ≡ r) (sym same) (sym c.receipt-item.is))
    (subst (λ i. AreWelcome m (of_receipts (take i rs))) (sym same) (c.loop-receipt.invariant.welcome records))
    (record {
      fits = subst (λ (k : Configuration). IsFitting k r) c.config-config.ensures.config c.in_default.ensures.fits;
      unheld = none.unheld;
      full = none.full;
    })
    (λ e. absurd (cc))

pub loop-receipt-preserved : goal.loop-receipt-preserved
loop-receipt-preserved g c =
    let m = (g.C.Closure.state c.args.closure.now).meaning in
    let rs = c.args.receipts.now in
    let r = c.receipt-item.result in
    let i = c.loop-receipt.receipt-index in
    let same = c.loop-receipt.invariant.place in
    let own : c.config-config.result.now ≡ m.config = c.config-config.ensures.config in
    let at : get_or rs i r ≡ r = sym c.receipt-item.is in
    let has : HasPlace receipt_cmp (receipt_limit m.config) (with_items receipt_cmp (take c.loop-receipt.receipt-index rs) m.held) r
    (length rs - c.loop-receipt.receipt-index) c.in-Some.more =
    subst (λ j. HasPlace receipt_cmp (receipt_limit m.config) (with_items receipt_cmp (take c.loop-receipt.receipt-index rs) m.held) r (length rs - j)
    c.in-Some.more) same
    (subst (λ (f : Front Receipt). HasPlace receipt_cmp (receipt_limit m.config) (with_items receipt_cmp (passed f) m.held) r
    (length rs - c.loop-receipt.place) c.in-Some.more)
    c.loop-receipt.invariant.front c.in-Some.ensures.place) in
    record {
      place = omega (arith, same);
      front = front-next c.loop-receipt.before c.place_for_receipt.new.before rs c.loop-receipt.receipt-index
          c.loop-receipt.invariant.front c.place_for_receipt.ensures.items c.place_for_receipt.ensures.count;
      places = places-next receipt_cmp (receipt_limit m.config) rs m.held i c.in-Some.more r c.loop-receipt-test.true at has.after;
      welcome = λ records. receipt-judged (record m { records = records }) rs i r c.loop-receipt-test.true at (c.loop-receipt.invariant.welcome records)
          (subst IsConfiguration own c.domains-form.ensures.form) (subst (λ (k : Configuration). IsFitting k r) own c.in_default.ensures.fits) has.place;
      forms = subst (λ (xs : List Receipt). AllByRecursion IsReceipt xs)
          (sym (take-next rs i r c.loop-receipt-test.true at))
          (all-push IsReceipt (take i rs) r c.loop-receipt.invariant.forms c.check_fit.ensures.form);
    }
