-- One more receipt fits, or a cause holds for it.
use Rattle.std.proofs.Common.{List, Option, Some, sym, subst}
use Rattle.std.specs.List.{Contains}
use Rattle.receipt_core.specs.Receipt.{Receipt}
use Rattle.receipt_core.specs.Acceptance.{IsFitting}
use Rattle.closure_core.specs.Refusals.{IsOfUnknownDomain}
use Rattle.closure_core.specs.declared.error.TakeError.{TakeError}
use Rattle.closure_core.proofs.FitFacts.{fits_known}
use Rattle.closure_parts.specs.Merge.{RefusesFitOfOne}
use Rattle.closure_parts.proofs.MergeFacts.{IsPassed-next, IsPassed-end, IsPassed-has, IsCause, cause_kept, cause_next, cause_refuses, misfit_known}
use Rattle.closure_parts.proofs.copies.fit_all.Goals as goal

pub loop-receipt-preserved : goal.loop-receipt-preserved
loop-receipt-preserved c =
    let config = c.args.config.now in
    let all = c.into_iter-receipt-iterator.result in
    let r = c.in-Some.receipt.now in
    record {
      known = IsPassed-next (λ (s : Receipt). IsOfUnknownDomain config s → ⊥) all c.loop-receipt.receipt-iterator c.next.new.self r
          c.loop-receipt.invariant.known c.in-Some.ensures.steps (fits_known config r c.in_default.ensures.fits);
      cause = cause_kept config all c.loop-receipt.receipt-iterator c.next.new.self r c.loop-receipt.cause c.domains.ensures.form
          c.loop-receipt.invariant.cause c.in-Some.ensures.steps c.in_default.ensures.fits;
    }

pub loop-receipt-preserved-in-Err : goal.loop-receipt-preserved-in-Err
loop-receipt-preserved-in-Err c =
    let config = c.args.config.now in
    let all = c.into_iter-receipt-iterator.result in
    let r = c.in-Some.receipt.now in
    record {
      known = IsPassed-next (λ (s : Receipt). IsOfUnknownDomain config s → ⊥) all c.loop-receipt.receipt-iterator c.next.new.self r
          c.loop-receipt.invariant.known c.in-Some.ensures.steps
          (misfit_known config r c.in-Err.why c.in-Err.ensures.fits c.if-eq.ensures);
      cause = subst (λ (why : TakeError). IsCause config all c.next.new.self (Some why)) (sym c.first_cause.ensures)
          (cause_next config all c.loop-receipt.receipt-iterator c.next.new.self r c.loop-receipt.cause c.in-Err.why c.domains.ensures.form
          c.loop-receipt.invariant.cause c.in-Some.ensures.steps
          (IsPassed-has (λ (s : Receipt). IsOfUnknownDomain config s → ⊥) all c.loop-receipt.receipt-iterator c.next.new.self r
          c.loop-receipt.invariant.known c.in-Some.ensures.steps)
          c.in-Err.ensures.fits c.if-eq.ensures);
    }

pub returns-in-Some-cause : goal.returns-in-Some-cause
returns-in-Some-cause c =
    let config = c.args.config.now in
    let all = c.into_iter-receipt-iterator.result in
    let rest = c.loop-receipt.receipt-iterator in
    subst (λ (rs : List Receipt). RefusesFitOfOne config rs c.in-Some-cause.why) c.into_iter-receipt-iterator.ensures.into_iter_gives
    (cause_refuses config all rest c.in-Some-cause.why c.loop-receipt.invariant.known
    (subst (λ (o : Option TakeError). IsCause config all rest o) c.in-Some-cause.is c.loop-receipt.invariant.cause)
    c.in-None.ensures.steps.0)

pub returns-in-None-cause : goal.returns-in-None-cause
returns-in-None-cause c = λ r has.
    let config = c.args.config.now in
    let all = c.into_iter-receipt-iterator.result in
    let rest = c.loop-receipt.receipt-iterator in
    IsPassed-end (IsFitting config) all rest
    (subst (λ (o : Option TakeError). IsCause config all rest o) c.in-None-cause.is c.loop-receipt.invariant.cause)
    c.in-None.ensures.steps.0 r
    (subst (λ (xs : List Receipt). Contains xs r) (sym c.into_iter-receipt-iterator.ensures.into_iter_gives) has)
