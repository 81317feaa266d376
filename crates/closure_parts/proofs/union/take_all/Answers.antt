-- One more is held.
use Rattle.std.proofs.Common.{◌≡◌, ◌∷◌, List, length, arith, refl, sym, ap, subst, ◌∙◌}
use Rattle.std.specs.Vec.Iter.{into_iter_items}
use Rattle.receipt_core.specs.Receipt.{Receipt, receipt_cmp}
use Rattle.receipt_core.specs.Rising.{with_items}
use Rattle.closure_parts.specs.Held.{meaning_of}
use Rattle.closure_parts.specs.Merge.{FitWithinRoom, HasSpentOn}
use Rattle.closure_parts.proofs.JoinFacts.{IsJoining-start, IsJoining-next, IsJoining-end, IsJoining-spent, none_left}
use Rattle.closure_parts.proofs.union.take_all.Goals as goal

pub loop-receipt-init : goal.loop-receipt-init
loop-receipt-init g c =
    let given = c.into_iter-receipt-iterator.ensures.into_iter_gives in
    record {
      joining = IsJoining-start (g.C.Mergeable.state c.args.closure.now) (into_iter_items c.into_iter-receipt-iterator.result)
          (subst (FitWithinRoom (g.C.Mergeable.state c.args.closure.now)) (sym given.0) c.requires);
      same_work = refl;
      size = given.1 ∙ c.args.receipts.ok.0 ∙ sym (ap length given.0);
    }

pub loop-receipt-preserved : goal.loop-receipt-preserved
loop-receipt-preserved g c =
    let steps : into_iter_items c.loop-receipt.receipt-iterator ≡ c.in-Some.receipt ∷ into_iter_items c.next.new.self = c.in-Some.ensures.steps.0 in
    record {
      joining = IsJoining-next (g.C.Mergeable.state c.args.closure.now) (g.C.Mergeable.state c.loop-receipt.closure)
          (g.C.Mergeable.state c.take_one.new.self) (meaning_of c.held.result.now)
          (into_iter_items c.into_iter-receipt-iterator.result) (into_iter_items c.loop-receipt.receipt-iterator)
          (into_iter_items c.next.new.self) c.in-Some.receipt c.take_one.result
          c.held.ensures c.config-valid.ensures.valid c.config-valid.ensures.form
          c.loop-receipt.invariant.joining steps c.take_one.ensures.takes;
      same_work = c.take_one.ensures.same_work ∙ c.loop-receipt.invariant.same_work;
      size = omega (arith, c.in-Some.ensures.steps.1, ap length steps, c.loop-receipt.invariant.size);
    }

pub loop-receipt-preserved-in-Some : goal.loop-receipt-preserved-in-Some
loop-receipt-preserved-in-Some g c =
    let steps : into_iter_items c.loop-receipt.receipt-iterator ≡ c.in-Some.receipt ∷ into_iter_items c.next.new.self = c.in-Some.ensures.steps.0 in
    record {
      joining = IsJoining-next (g.C.Mergeable.state c.args.closure.now) (g.C.Mergeable.state c.loop-receipt.closure)
          (g.C.Mergeable.state c.take_one.new.self) (meaning_of c.held.result.now)
          (into_iter_items c.into_iter-receipt-iterator.result) (into_iter_items c.loop-receipt.receipt-iterator)
          (into_iter_items c.next.new.self) c.in-Some.receipt c.take_one.result
          c.held.ensures c.config-valid.ensures.valid c.config-valid.ensures.form
          c.loop-receipt.invariant.joining steps c.take_one.ensures.takes;
      same_work = c.take_one.ensures.same_work ∙ c.loop-receipt.invariant.same_work;
      size = omega (arith, c.in-Some.ensures.steps.1, ap length steps, c.loop-receipt.invariant.size);
    }

pub returns-clause-meaning : goal.returns-clause-meaning
returns-clause-meaning g c =
    let start = g.C.Mergeable.state c.args.closure.now in
    IsJoining-end start (g.C.Mergeable.state c.loop-receipt.closure)
    (into_iter_items c.into_iter-receipt-iterator.result) (into_iter_items c.loop-receipt.receipt-iterator)
    c.loop-receipt.invariant.joining
    (none_left (into_iter_items c.loop-receipt.receipt-iterator) (sym c.loop-receipt.invariant.size ∙ c.in-None.ensures.steps.0))
    ∙ ap (λ (xs : List Receipt). record start.meaning { held = with_items receipt_cmp xs start.meaning.held })
    c.into_iter-receipt-iterator.ensures.into_iter_gives.0

pub returns-clause-room : goal.returns-clause-room
returns-clause-room g c =
    let start = g.C.Mergeable.state c.args.closure.now in
    let now = g.C.Mergeable.state c.loop-receipt.closure in
    subst (λ (xs : List Receipt). HasSpentOn start.room xs now.room) c.into_iter-receipt-iterator.ensures.into_iter_gives.0
    (IsJoining-spent start now (into_iter_items c.into_iter-receipt-iterator.result)
    (into_iter_items c.loop-receipt.receipt-iterator) c.loop-receipt.invariant.joining
    (none_left (into_iter_items c.loop-receipt.receipt-iterator) (sym c.loop-receipt.invariant.size ∙ c.in-None.ensures.steps.0)))
