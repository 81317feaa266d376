use Rattle.std.proofs.Common.{ℕ, None, List, arith, ◌∙◌, ap, sym, subst}
use Rattle.std.specs.List.{last_or}
use Rattle.closure_core.specs.Inside.Nodes.{flags_of, pairs_of, raised_documents, AreNumbers}
use Rattle.closure_core.proofs.NodeFacts.{last_kept, last_skips, last_given, length-flags, positive-raised, zero-lowered}
use Rattle.closure_core.proofs.lending.Accepted.into_last.Goals as goal

pub loop-number-init : goal.loop-number-init
loop-number-init c =
    let pairs = pairs_of c.self.inside.seeds.now c.self.inside.receipts.now in
    let flags = flags_of c.self.inside.counts.now in (
      subst (λ (ns : List ℕ). AreNumbers pairs flags ns) (sym c.backward-numbers.ensures) c.self.invariant,
      ap (raised_documents pairs flags) c.backward-numbers.ensures ∙ c.self.view_is,
    )

pub bounds-self-inside-number : goal.bounds-self-inside-number
bounds-self-inside-number c =
    let kept = last_kept (pairs_of c.self.inside.seeds.now c.self.inside.receipts.now)
    (flags_of c.self.inside.counts.now) c.loop-number.numbers c.next.new.self c.in-Some.number
    c.loop-number.invariant.0 c.in-Some.ensures.steps in
    omega (arith, kept.1, kept.0.flagged, length-flags c.self.inside.counts.now)

pub returns-then-self-number-ne0 : goal.returns-then-self-number-ne0
returns-then-self-number-ne0 c =
    last_given (pairs_of c.self.inside.seeds.now c.self.inside.receipts.now)
    (flags_of c.self.inside.counts.now) c.loop-number.numbers c.next.new.self c.in-Some.number
    c.document_at.result.now c.in-Some.ensures.steps
    (positive-raised c.self.inside.counts.now c.in-Some.number (omega (arith, c.if-self-number-ne0.true)))
    c.document_at.ensures
    ∙ ap (last_or None) c.loop-number.invariant.1

pub loop-number-preserved : goal.loop-number-preserved
loop-number-preserved c = (
  (last_kept (pairs_of c.self.inside.seeds.now c.self.inside.receipts.now)
      (flags_of c.self.inside.counts.now) c.loop-number.numbers c.next.new.self c.in-Some.number
      c.loop-number.invariant.0 c.in-Some.ensures.steps).0,
  last_skips (pairs_of c.self.inside.seeds.now c.self.inside.receipts.now)
      (flags_of c.self.inside.counts.now) c.loop-number.numbers c.next.new.self c.in-Some.number
      c.in-Some.ensures.steps
      (zero-lowered c.self.inside.counts.now c.in-Some.number
      (omega (arith, c.if-self-number-ne0.false))) ∙ c.loop-number.invariant.1,
)
