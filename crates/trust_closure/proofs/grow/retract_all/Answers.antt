-- If nothing is new, nothing is closed. Otherwise all labels of distrusted keys are.
use Rattle.std.proofs.Common.{refl, ap, subst}
use Rattle.std.specs.Prelude.{MatchBool}
use Rattle.receipt_core.specs.Acceptance.{Meaning}
use Rattle.closure_parts.specs.Held.{meaning_of, IsBefore}
use Rattle.closure_parts.specs.Merge.{AreOld, HasNewRecord}
use Rattle.trust_closure.proofs.grow.retract_all.Goals as goal

pub returns-then-hold_all-clause-work : goal.returns-then-hold_all-clause-work
returns-then-hold_all-clause-work c spare =
    let m = meaning_of c.args.held.now in
    let new : HasNewRecord m c.args.records = subst (λ b. MatchBool b (HasNewRecord m c.args.records) (AreOld m c.args.records))
    c.if-hold_all.true c.hold_all.ensures.new in (
      λ old. absurd (new.unheld (old new.added new.among)),
      λ some.
          let before : IsBefore c.args.held.now c.args.records c.hold_all.new.held = record {
            config = ap (λ (k : Meaning). k.config) c.hold_all.ensures.meaning;
            arrived = c.hold_all.ensures.arrived;
            held = ap (λ (k : Meaning). k.held) c.hold_all.ensures.meaning;
            records = ap (λ (k : Meaning). k.records) c.hold_all.ensures.meaning;
          } in
          c.close_all.ensures.work c.args.held.now c.args.records spare c.args.work.now before c.requires.indexed,
    )

pub returns-else-hold_all-clause-work : goal.returns-else-hold_all-clause-work
returns-else-hold_all-clause-work c spare =
    let m = meaning_of c.args.held.now in
    let old : AreOld m c.args.records = subst (λ b. MatchBool b (HasNewRecord m c.args.records) (AreOld m c.args.records))
    c.if-hold_all.false c.hold_all.ensures.new in
    (λ same. refl, λ new. absurd (new.unheld (old new.added new.among)))
