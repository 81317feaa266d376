-- The files are as they have to be for the next step, and no line was lost.
use Rattle.std.proofs.Common.{◌≡◌, ◌-◌, ℕ, List}
use Rattle.state_steps.specs.Files.{HasWholeLine, StateDisk}
use Rattle.state_steps.specs.Saves.{IsSaveDueOn, SaveKeeps, save_steps_left}
use Rattle.state_steps.specs.Steps.{StateTexts}
use Rattle.state_calls.specs.Tries.{AfterTries, HoldsSince, MakesFiles, TriesKeep}
use Rattle.state_calls.proofs.saves.save.Given as goal

abbrev pub invariant-steps : goal.invariant-steps
invariant-steps g l = record {
  due : (texts : StateTexts) (first : StateDisk)
      → AfterTries (MakesFiles texts) (g.T.StepCalls.tried l.calls) first (IsSaveDueOn texts l.saving.stage);
  keeps : (texts : StateTexts) (first : StateDisk) (line : List ℕ)
      → TriesKeep (MakesFiles texts) first line (g.T.StepCalls.tried l.fn.calls) → HasWholeLine texts.snapshot line
      → AfterTries (MakesFiles texts) (g.T.StepCalls.tried l.calls) first (λ disk. SaveKeeps texts l.saving disk line)
      × HoldsSince (TriesKeep (MakesFiles texts) first line) (g.T.StepCalls.tried l.fn.calls) (g.T.StepCalls.tried l.calls);
  steps : save_steps_left l.saving.stage ≡ 5 - l.counter;
}
