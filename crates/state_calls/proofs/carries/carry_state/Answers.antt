use Rattle.std.proofs.Common.{ℕ, List, inl, inr, ap, false, subst, sym, true, ◌∙◌}
use Rattle.state_steps.specs.Carries.{CarryDisk, CarryKeeps, CarryTexts, IsCarryDueOn, IsCarryKeptOn, IsOldState, carry_step, following_carry}
use Rattle.state_steps.specs.declared.carrying_over.CarryStage.TheVariants.{Due}
use Rattle.state_steps.specs.declared.carrying_over.CarryStep.TheVariants.{FoldState}
use Rattle.state_calls.specs.Tries.{TriesStartWith}
use Rattle.state_calls.proofs.TryFacts.{carried_first, carried_next, no_try, one_try}
use Rattle.state_calls.proofs.carries.carry_state.Goals as goal

pub steps-init : goal.steps-init
steps-init g c =
    let first = carried_first c.begin-carrying.result.stage c.begin-carrying.ensures.steps in
    let keeps : (texts : CarryTexts) (disk : CarryDisk) (line : List ℕ) → IsOldState texts disk
    → IsCarryKeptOn texts (Due FoldState) disk line → CarryKeeps texts c.begin-carrying.result disk line =
    λ texts disk line old kept. elim kept [
      | inl here ↦ c.begin-carrying.ensures.old texts disk line old here.0 here.1
      | inr back ↦ c.begin-carrying.ensures.back texts disk line old back
    ] in
    record {
      due = λ texts start due disk may. subst (λ stage. IsCarryDueOn texts stage disk) (sym first) (due disk may);
      keeps = λ texts start line apart kept. (
        λ disk may. keeps texts disk line (kept disk may).0 (kept disk may).1,
        no_try (TriesStartWith texts start line) (g.T.StepCalls.tried c.args.calls.now)
            (λ disk may found left. c.stops.ensures.carry texts c.begin-carrying.result disk found line apart
            (keeps texts disk line (kept disk may).0 (kept disk may).1) left),
      );
      stage = first;
    }

pub steps-preserved : goal.steps-preserved
steps-preserved g c =
    let tried = g.T.StepCalls.tried in
    let due = carry_step c.steps.carrying.stage in
    record {
      due = λ texts first is. c.in_ok-try_carry.ensures.due texts first (c.steps.invariant.due texts first is);
      keeps = λ texts first line apart kept.
          let until = c.steps.invariant.keeps texts first line apart kept in
          let keeps = c.in_ok-try_carry.ensures.keeps texts first line apart until.0 in (
            keeps,
            one_try (TriesStartWith texts first line) due true (tried c.args.calls.now) (tried c.steps.calls)
                (tried c.try_carry.new.calls) c.in_ok-try_carry.ensures.tried until.1
                (λ disk may found left. c.stops.ensures.carry texts c.try_carry.new.carrying disk found line apart (keeps disk may) left),
          );
      stage = c.in_ok-try_carry.ensures.next ∙ ap following_carry c.steps.invariant.stage ∙ carried_next c.steps.counter;
    }

pub returns-in_err-try_carry-clause-keeps : goal.returns-in_err-try_carry-clause-keeps
returns-in_err-try_carry-clause-keeps g c texts first line apart kept =
    let tried = g.T.StepCalls.tried in
    let due = carry_step c.steps.carrying.stage in
    let until = c.steps.invariant.keeps texts first line apart kept in
    let keeps = c.in_err-try_carry.ensures.keeps texts first line apart until.0 in
    one_try (TriesStartWith texts first line) due false (tried c.args.calls.now) (tried c.steps.calls)
    (tried c.try_carry.new.calls) c.in_err-try_carry.ensures.tried until.1
    (λ disk may found left. c.stops.ensures.carry texts c.try_carry.new.carrying disk found line apart (keeps disk may) left)

pub returns-clause-keeps : goal.returns-clause-keeps
returns-clause-keeps g c texts first line apart kept = (c.steps.invariant.keeps texts first line apart kept).1
