-- One more is copied.
use Rattle.std.proofs.Common.{List, length, ◌≤◌, ◌∙◌, sym, ap, subst, arith}
use Rattle.std.specs.List.{Contains}
use Rattle.std.proofs.lemmas.Result.{err_from_is_err_and}
use Rattle.receipt_core.specs.Receipt.{Receipt}
use Rattle.closure_parts.specs.Held.{meaning_of}
use Rattle.closure_parts.proofs.MergeFacts.{IsCopied, IsCopied-start, IsCopied-held, IsCopied-new, IsCopied-end, IsCopied-has, lacks_of}
use Rattle.receipt_core.proofs.LimitFacts.{receipt_limit-most}
use Rattle.receipt_core.specs.Limits.{most_receipts}
use Rattle.closure_parts.proofs.copies.copies_of_new.Goals as goal

pub loop-receipt-init : goal.loop-receipt-init
loop-receipt-init c =
    let all = c.into_iter-receipt-iterator.result in
    let few : length all ≤ most_receipts = omega (
      arith,
      ap length (c.into_iter-receipt-iterator.ensures.into_iter_gives ∙ c.receipts-receipt-items.ensures),
      c.config-other_valid.ensures.valid.few,
      receipt_limit-most c.args.other.now.config,
    ) in
    subst (IsCopied c.args.held.now.held all all) (sym c.new-copies.ensures.items)
    (IsCopied-start c.args.held.now.held all few)

pub loop-receipt-preserved : goal.loop-receipt-preserved
loop-receipt-preserved c =
    let held = c.args.held.now.held in
    IsCopied-held held c.into_iter-receipt-iterator.result c.loop-receipt.receipt-iterator c.next.new.self
    c.loop-receipt.copies.items c.in-Some.receipt.now c.config-valid.ensures.valid.rising
    c.loop-receipt.invariant c.in-Some.ensures.steps (c.holds.ensures.0 c.if-not-holds.false)

pub loop-receipt-preserved-in_ok-push : goal.loop-receipt-preserved-in_ok-push
loop-receipt-preserved-in_ok-push c =
    let held = c.args.held.now.held in
    let r = c.in-Some.receipt.now in
    IsCopied-new held c.into_iter-receipt-iterator.result c.loop-receipt.receipt-iterator c.next.new.self
    c.loop-receipt.copies.items c.push.new.self.items r c.in_ok-try_clone.field-0
    c.loop-receipt.invariant c.in-Some.ensures.steps (lacks_of c.holds.result (Contains held r) c.if-not-holds.true c.holds.ensures)
    c.in_ok-push.ensures.items c.in_ok-try_clone.ensures

pub returns-in_err-try_clone : goal.returns-in_err-try_clone
returns-in_err-try_clone c =
    let held = c.args.held.now.held in
    let r = c.in-Some.receipt.now in
    let p = err_from_is_err_and c.from_residual.result c.from_residual.ensures.1 in
    rw p.1 (
      r,
      subst (λ (xs : List Receipt). Contains xs r) (c.into_iter-receipt-iterator.ensures.into_iter_gives ∙ c.receipts-receipt-items.ensures)
          (IsCopied-has held c.into_iter-receipt-iterator.result c.loop-receipt.receipt-iterator c.next.new.self
          c.loop-receipt.copies.items r c.loop-receipt.invariant c.in-Some.ensures.steps),
      lacks_of c.holds.result (Contains held r) c.if-not-holds.true c.holds.ensures,
    )

pub returns-in_err-push : goal.returns-in_err-push
returns-in_err-push c =
    let held = c.args.held.now.held in
    let r = c.in-Some.receipt.now in
    let p = err_from_is_err_and c.from_residual-in_err-push.result c.from_residual-in_err-push.ensures.1 in
    rw p.1 (
      r,
      subst (λ (xs : List Receipt). Contains xs r) (c.into_iter-receipt-iterator.ensures.into_iter_gives ∙ c.receipts-receipt-items.ensures)
          (IsCopied-has held c.into_iter-receipt-iterator.result c.loop-receipt.receipt-iterator c.next.new.self
          c.loop-receipt.copies.items r c.loop-receipt.invariant c.in-Some.ensures.steps),
      lacks_of c.holds.result (Contains held r) c.if-not-holds.true c.holds.ensures,
    )

pub returns : goal.returns
returns c =
    let m = meaning_of c.args.held.now in
    let other = meaning_of c.args.other.now in
    IsCopied-end m other c.loop-receipt.receipt-iterator c.loop-receipt.copies.items c.config-valid.ensures.valid c.config-other_valid.ensures.valid
    (subst (λ (all : List Receipt). IsCopied m.held all c.loop-receipt.receipt-iterator c.loop-receipt.copies.items)
    (c.into_iter-receipt-iterator.ensures.into_iter_gives ∙ c.receipts-receipt-items.ensures)
    c.loop-receipt.invariant)
    c.in-None.ensures.steps.0
