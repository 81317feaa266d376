-- One more is held.
use Rattle.std.proofs.Common.{◌≡◌, ◌∷◌, List, length, arith, sym, ap, subst, ◌∙◌}
use Rattle.std.specs.Vec.Iter.{into_iter_items}
use Rattle.receipt_core.specs.Receipt.{Receipt, receipt_cmp}
use Rattle.receipt_core.specs.Rising.{with_items}
use Rattle.closure_core.specs.Refusals.{IsRoomier}
use Rattle.replica_core.specs.Absorbing.{AreWelcome, of_receipts, room_for}
use Rattle.replica_core.proofs.JoiningFacts.{IsJoining-start, IsJoining-next, IsJoining-end, none-left}
use Rattle.replica_core.proofs.joining.take_all.Goals as goal

pub loop-receipt-init : goal.loop-receipt-init
loop-receipt-init g c =
    let start = g.C.Closure.state c.args.closure.now in
    let given = c.into_iter-receipt-iterator.ensures.into_iter_gives in
    record {
      joining = IsJoining-start start (into_iter_items c.into_iter-receipt-iterator.result)
          (subst (λ (rs : List Receipt). AreWelcome start.meaning (of_receipts rs)) (sym given.0) c.requires.welcome)
          (subst (λ (rs : List Receipt). IsRoomier (room_for start.meaning rs) start.room) (sym given.0) c.requires.room);
      size = given.1 ∙ c.args.receipts.ok.0 ∙ sym (ap length given.0);
    }

pub loop-receipt-preserved : goal.loop-receipt-preserved
loop-receipt-preserved g c =
    let steps : into_iter_items c.loop-receipt.receipt-iterator ≡ c.in-Some.receipt ∷ into_iter_items c.next.new.self = c.in-Some.ensures.steps.0 in
    record {
      joining = IsJoining-next (g.C.Closure.state c.args.closure.now) (g.C.Closure.state c.loop-receipt.closure) (g.C.Closure.state c.take.new.self)
          (into_iter_items c.into_iter-receipt-iterator.result) (into_iter_items c.loop-receipt.receipt-iterator)
          (into_iter_items c.next.new.self) c.in-Some.receipt c.take.result
          c.sets.ensures.receipts c.config-valid.ensures.valid c.domain-form.ensures.form c.loop-receipt.invariant.joining steps c.take.ensures;
      size = omega (arith, c.in-Some.ensures.steps.1, ap length steps, c.loop-receipt.invariant.size);
    }

pub loop-receipt-preserved-in-Some : goal.loop-receipt-preserved-in-Some
loop-receipt-preserved-in-Some g c =
    let steps : into_iter_items c.loop-receipt.receipt-iterator ≡ c.in-Some.receipt ∷ into_iter_items c.next.new.self = c.in-Some.ensures.steps.0 in
    record {
      joining = IsJoining-next (g.C.Closure.state c.args.closure.now) (g.C.Closure.state c.loop-receipt.closure) (g.C.Closure.state c.take.new.self)
          (into_iter_items c.into_iter-receipt-iterator.result) (into_iter_items c.loop-receipt.receipt-iterator)
          (into_iter_items c.next.new.self) c.in-Some.receipt c.take.result
          c.sets.ensures.receipts c.config-valid.ensures.valid c.domain-form.ensures.form c.loop-receipt.invariant.joining steps c.take.ensures;
      size = omega (arith, c.in-Some.ensures.steps.1, ap length steps, c.loop-receipt.invariant.size);
    }

pub returns : goal.returns
returns g c =
    let start = g.C.Closure.state c.args.closure.now in
    IsJoining-end start (g.C.Closure.state c.loop-receipt.closure) (into_iter_items c.into_iter-receipt-iterator.result)
    (into_iter_items c.loop-receipt.receipt-iterator) c.loop-receipt.invariant.joining
    (none-left (into_iter_items c.loop-receipt.receipt-iterator) (sym c.loop-receipt.invariant.size ∙ c.in-None.ensures.steps.0))
    ∙ ap (λ (xs : List Receipt). record start.meaning { held = with_items receipt_cmp xs start.meaning.held })
    c.into_iter-receipt-iterator.ensures.into_iter_gives.0
