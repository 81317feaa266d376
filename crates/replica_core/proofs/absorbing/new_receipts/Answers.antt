-- One more is counted, or is held already or came before.
use Rattle.std.proofs.Common.{◌+◌, ◌^◌, ◌≤◌, inl, inr, length, sym, ap, subst, arith}
use Rattle.std.specs.Prelude.{Contains, IsTrue, ◌↔◌}
use Rattle.std.proofs.lemmas.Bool.{cases_lt}
use Rattle.receipt_core.specs.Receipt.{Receipt, receipt_cmp, offers_of, pair_of}
use Rattle.receipt_core.specs.Rising.{with_items}
use Rattle.replica_core.specs.Inside.Earlier.{Front, passed}
use Rattle.replica_core.specs.Inside.FreePlaces.{CountsNew}
use Rattle.replica_core.proofs.EarlierFacts.{front-next}
use Rattle.replica_core.proofs.PlaceFacts.{refuted}
use Rattle.replica_core.proofs.RoomFacts.{counted-as, counted-held, counted-new, counted-over}
use Rattle.replica_core.proofs.absorbing.new_receipts.Goals.{then-not-is_receipt_among+in_ok-offers, else-not-is_receipt_among}
use Rattle.replica_core.proofs.absorbing.new_receipts.Goals as goal

pub returns-in_err-offers : goal.returns-in_err-offers
returns-in_err-offers g c =
    let m = (g.C.Closure.state c.args.closure.now).meaning in
    let rs = c.args.receipts.now in
    let r = c.receipt-item.result in
    let i = c.loop-receipt.receipt-index in
    let among = subst (λ (f : Front Receipt). IsTrue c.is_receipt_among.result ↔ Contains (with_items receipt_cmp (passed f) m.held) r)
    c.loop-receipt.invariant.front c.is_receipt_among.ensures.among in
    let own = ap length c.offers.ensures in
    let over : 2 ^ 64 ≤ c.loop-receipt.offers + length (offers_of (pair_of r)) = elim (cases_lt (c.loop-receipt.offers + length c.offers.result.now) (2 ^ 64)) [
      | inl less ↦ absurd (c.in_err-offers.ensures less)
      | inr more ↦ omega (arith, more, own)
    ] in
    subst (CountsNew m rs) (sym c.from_residual.ensures)
    (counted-over c.sets.ensures.receipts m c.config-valid.ensures.valid rs i c.loop-receipt.count c.loop-receipt.offers
    c.loop-receipt.invariant.counted r c.loop-receipt-test.true (sym c.receipt-item.is) c.domain-form.ensures.form
    (refuted c.is_receipt_among.result _ c.if-not-is_receipt_among.true among) over)

pub loop-receipt-preserved : goal.loop-receipt-preserved
loop-receipt-preserved g c =
    let m = (g.C.Closure.state c.args.closure.now).meaning in
    let rs = c.args.receipts.now in
    let r = c.receipt-item.result in
    let i = c.loop-receipt.receipt-index in
    let few = c.loop-receipt.invariant.few in
    let among = subst (λ (f : Front Receipt). IsTrue c.is_receipt_among.result ↔ Contains (with_items receipt_cmp (passed f) m.held) r)
    c.loop-receipt.invariant.front c.is_receipt_among.ensures.among in
    record {
      front = front-next c.loop-receipt.before c.is_receipt_among.new.before rs i c.loop-receipt.invariant.front
          c.is_receipt_among.ensures.items c.is_receipt_among.ensures.count;
      few = elim c.if-not-is_receipt_among.branch [
        | then-not-is_receipt_among+in_ok-offers w ↦ omega (arith, few, w.count-is)
        | else-not-is_receipt_among w ↦ omega (arith, few, w.count-is)
      ];
      counted = elim c.if-not-is_receipt_among.branch [
        | then-not-is_receipt_among+in_ok-offers w ↦
            let sum = w.in_ok-offers.ensures in
            let own = ap length w.offers.ensures in
            counted-as m rs (i + 1) (c.loop-receipt.count + 1) (c.loop-receipt.offers + length (offers_of (pair_of r))) _ _
            (omega (arith, w.count-is)) (omega (arith, w.offers-is, sum, own))
            (counted-new c.sets.ensures.receipts m c.config-valid.ensures.valid rs i c.loop-receipt.count c.loop-receipt.offers
            c.loop-receipt.invariant.counted r c.loop-receipt-test.true (sym c.receipt-item.is) c.domain-form.ensures.form
            (refuted c.is_receipt_among.result _ w.if-not-is_receipt_among.true among))
        | else-not-is_receipt_among w ↦
            counted-as m rs (i + 1) c.loop-receipt.count c.loop-receipt.offers _ _ (omega (arith, w.count-is)) (omega (arith, w.offers-is))
            (counted-held c.sets.ensures.receipts m c.config-valid.ensures.valid rs i c.loop-receipt.count c.loop-receipt.offers
            c.loop-receipt.invariant.counted r c.loop-receipt-test.true (sym c.receipt-item.is) c.domain-form.ensures.form
            (among.0 w.if-not-is_receipt_among.false))
      ];
    }
