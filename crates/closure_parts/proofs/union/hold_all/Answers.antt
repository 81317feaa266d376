-- One more is held.
use Rattle.std.proofs.Common.{List, ltb, inr, refl, sym, ap, subst, ◌∙◌}
use Rattle.std.specs.Prelude.{MatchBool}
use Rattle.receipt_core.specs.declared.distrust.Distrust.{Distrust}
use Rattle.receipt_core.specs.Limits.{record_limit}
use Rattle.receipt_core.specs.Acceptance.{Meaning}
use Rattle.receipt_core.specs.Receipt.{distrust_cmp}
use Rattle.receipt_core.specs.Rising.{with_items}
use Rattle.closure_parts.specs.Held.{meaning_of}
use Rattle.closure_parts.specs.Merge.{AreKnown, AreOld, HasNewRecord}
use Rattle.closure_parts.proofs.JoinFacts.{IsDistrusting-start, IsDistrusting-next, IsDistrusting-end, IsDistrusting-among, grown_next, grown_states}
use Rattle.closure_parts.proofs.union.hold_all.Goals as goal

pub loop-domain-init : goal.loop-domain-init
loop-domain-init c = record {
  holding = IsDistrusting-start (meaning_of c.args.held.now) c.into_iter-domain-iterator.result
      (subst (AreKnown (meaning_of c.args.held.now))
      (sym c.into_iter-domain-iterator.ensures.into_iter_gives) c.requires);
  arrived = refl;
  capacity = refl;
  grown = inr refl;
}

pub loop-domain-preserved : goal.loop-domain-preserved
loop-domain-preserved c =
    let start = meaning_of c.args.held.now in
    let now = meaning_of c.loop-domain.held in
    let new = meaning_of c.add_record.new.self in
    let x : Distrust = record { domain = c.in-Some.domain.now; key = c.in-Some.key.now } in
    let i = c.loop-domain.invariant in
    record {
      holding = IsDistrusting-next start now new c.into_iter-domain-iterator.result
          c.loop-domain.domain-iterator c.next.new.self x c.add_record.result
          c.config-valid.ensures.valid i.holding c.in-Some.ensures.steps
          c.add_record.ensures.meaning;
      arrived = c.add_record.ensures.arrived ∙ i.arrived;
      capacity = c.add_record.ensures.capacity ∙ i.capacity;
      grown = grown_next start now new c.into_iter-domain-iterator.result x c.add_record.result
          (IsDistrusting-among start now c.into_iter-domain-iterator.result c.loop-domain.domain-iterator
          c.next.new.self x i.holding c.in-Some.ensures.steps)
          c.add_record.ensures.meaning i.grown;
    }

pub returns-clause-meaning : goal.returns-clause-meaning
returns-clause-meaning c =
    let start = meaning_of c.args.held.now in
    IsDistrusting-end start (meaning_of c.loop-domain.held) c.into_iter-domain-iterator.result
    c.loop-domain.domain-iterator c.loop-domain.invariant.holding c.in-None.ensures.steps.0
    ∙ ap (λ (xs : List Distrust). record start
    { records = with_items distrust_cmp xs start.records })
    c.into_iter-domain-iterator.ensures.into_iter_gives

pub returns-clause-new : goal.returns-clause-new
returns-clause-new c =
    let start = meaning_of c.args.held.now in
    let now = meaning_of c.loop-domain.held in
    let all = c.into_iter-domain-iterator.result in
    let held = IsDistrusting-end start now all c.loop-domain.domain-iterator c.loop-domain.invariant.holding
    c.in-None.ensures.steps.0 in
    subst (λ (xs : List Distrust). MatchBool (ltb c.records_left.result c.records_left-left.result)
    (HasNewRecord start xs) (AreOld start xs)) c.into_iter-domain-iterator.ensures.into_iter_gives
    (grown_states start now all c.records_left-left.result c.records_left.result (record_limit start.config)
    c.loop-domain.invariant.grown held c.records_left-left.ensures
    (c.records_left.ensures ∙ ap (λ (m : Meaning). record_limit m.config) held))
