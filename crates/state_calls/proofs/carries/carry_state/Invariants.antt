-- The files are as they have to be for the next step, and no line was lost.
use Rattle.std.proofs.Common.{◌≡◌, ℕ, List}
use Rattle.state_steps.specs.Carries.{AreApart, CarryDisk, CarryKeeps, CarryTexts, IsCarryDueOn, IsCarryKeptOn, IsOldState}
use Rattle.state_steps.specs.declared.carrying_over.CarryStage.TheVariants.{Due}
use Rattle.state_steps.specs.declared.carrying_over.CarryStep.TheVariants.{FoldState}
use Rattle.state_calls.specs.Tries.{AfterTries, HoldsSince, MakesCarried, TriesStartWith}
use Rattle.state_calls.proofs.TryFacts.{carried_at}
use Rattle.state_calls.proofs.carries.carry_state.Given as goal

abbrev pub invariant-steps : goal.invariant-steps
invariant-steps g l = record {
  due : (texts : CarryTexts) (first : CarryDisk)
      → AfterTries (MakesCarried texts) (g.T.StepCalls.tried l.fn.calls) first (IsOldState texts)
      → AfterTries (MakesCarried texts) (g.T.StepCalls.tried l.calls) first (IsCarryDueOn texts l.carrying.stage);
  keeps : (texts : CarryTexts) (first : CarryDisk) (line : List ℕ) → AreApart texts
      → AfterTries (MakesCarried texts) (g.T.StepCalls.tried l.fn.calls) first
      (λ disk. IsOldState texts disk × IsCarryKeptOn texts (Due FoldState) disk line)
      → AfterTries (MakesCarried texts) (g.T.StepCalls.tried l.calls) first (λ disk. CarryKeeps texts l.carrying disk line)
      × HoldsSince (TriesStartWith texts first line) (g.T.StepCalls.tried l.fn.calls) (g.T.StepCalls.tried l.calls);
  stage : l.carrying.stage ≡ carried_at l.counter;
}
