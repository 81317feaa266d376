use Rattle.std.proofs.Common.{rules, sym, subst}
use Rattle.closure_core.specs.AcceptedList.{IsAcceptedList}
use Rattle.receipt_core.proofs.ChainFacts.{not_stated}
use Rattle.distrust_view.specs.DistrustEffect.{fall_line}
use Rattle.distrust_view.proofs.PickedFacts.{IsUnaccepted, picks_one, picks_not, picks_end, fallen_of}
use Rattle.distrust_view.proofs.fallen.push_fallen.Goals as goal

pub loop-document-preserved-in-Continue-1 : goal.loop-document-preserved-in-Continue-1
loop-document-preserved-in-Continue-1 g c =
    picks_one (IsUnaccepted (g.C.Closure.state c.args.after.now).meaning c.args.domain.now) (fall_line c.args.domain.now)
    c.into_iter-document-iterator.result c.loop-document.document-iterator c.next.new.self c.in-Some.document.now
    c.args.out.now.items c.loop-document.out.items c.push_fall.new.out.items c.in-Some.ensures.steps
    (not_stated _ _ c.is_accepted.ensures (search rules)) c.in_ok-push_fall.ensures c.loop-document.invariant

pub loop-document-preserved : goal.loop-document-preserved
loop-document-preserved g c =
    picks_not (IsUnaccepted (g.C.Closure.state c.args.after.now).meaning c.args.domain.now) (fall_line c.args.domain.now)
    c.into_iter-document-iterator.result c.loop-document.document-iterator c.next.new.self c.in-Some.document.now
    c.args.out.now.items c.loop-document.out.items c.in-Some.ensures.steps
    (λ lacks. lacks (c.is_accepted.ensures.0 (search rules))) c.loop-document.invariant

pub returns : goal.returns
returns g c =
    let adds = picks_end (IsUnaccepted (g.C.Closure.state c.args.after.now).meaning c.args.domain.now) (fall_line c.args.domain.now)
    c.into_iter-document-iterator.result c.loop-document.document-iterator c.args.out.now.items c.loop-document.out.items
    c.in-None.ensures.steps.0 c.loop-document.invariant in (
      adds.picked,
      fallen_of (g.C.Closure.state c.args.before.now).meaning (g.C.Closure.state c.args.after.now).meaning c.args.domain.now
          c.into_iter-document-iterator.result adds.picked
          (subst (IsAcceptedList (g.C.Closure.state c.args.before.now).meaning c.args.domain.now)
          (sym c.into_iter-document-iterator.ensures.into_iter_gives) c.accepted-document-items.ensures) adds.are,
      adds.now,
    )
