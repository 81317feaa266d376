use Rattle.std.proofs.Common.{refl, sym, subst}
use Rattle.closure_core.specs.AcceptedList.{IsAcceptedList}
use Rattle.receipt_core.proofs.ChainFacts.{not_stated, stated_no}
use Rattle.reseeding.proofs.DoubtFacts.{IsOther, found_here, found_none, passed_by, rivals, rivals_back}
use Rattle.reseeding.proofs.doubt.has_rival.Goals as goal

pub returns-then-is_rival : goal.returns-then-is_rival
returns-then-is_rival g c = (
  λ _. rivals (g.C.Closure.state c.args.closure.now).meaning c.args.domain.now c.args.document.now c.into_iter-other-iterator.result
      (subst (IsAcceptedList (g.C.Closure.state c.args.closure.now).meaning c.args.domain.now)
      (sym c.into_iter-other-iterator.ensures.into_iter_gives) c.accepted-other-items.ensures)
      (found_here (IsOther c.args.document.now) c.into_iter-other-iterator.result c.loop-other.other-iterator _
      c.in-Some.other.now c.in-Some.ensures.steps (c.is_rival.ensures.0 c.if-is_rival.true) c.loop-other.invariant),
  λ _. refl,
)

pub loop-other-preserved : goal.loop-other-preserved
loop-other-preserved g c =
    passed_by (IsOther c.args.document.now) c.into_iter-other-iterator.result c.loop-other.other-iterator _
    c.in-Some.other.now c.in-Some.ensures.steps (not_stated _ _ c.is_rival.ensures c.if-is_rival.false) c.loop-other.invariant

pub returns : goal.returns
returns g c =
    stated_no _ _ refl (λ has.
    found_none (IsOther c.args.document.now) c.into_iter-other-iterator.result c.loop-other.other-iterator
    c.in-None.ensures.steps.0 c.loop-other.invariant
    (rivals_back (g.C.Closure.state c.args.closure.now).meaning c.args.domain.now c.args.document.now
    c.into_iter-other-iterator.result
    (subst (IsAcceptedList (g.C.Closure.state c.args.closure.now).meaning c.args.domain.now)
    (sym c.into_iter-other-iterator.ensures.into_iter_gives) c.accepted-other-items.ensures) has))
