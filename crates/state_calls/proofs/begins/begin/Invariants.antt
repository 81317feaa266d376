-- The files are as they have to be for the next step, and no line was lost.
use Rattle.std.proofs.Common.{◌≡◌, ◌≤◌, ℕ, List, Some}
use Rattle.state_steps.specs.declared.beginning.BeginStage.TheVariants.{Change}
use Rattle.state_steps.specs.declared.file_step.FileStep.{FileStep}
use Rattle.state_steps.specs.Begins.{BeginKeeps, IsBeginDueOn, begin_steps_left}
use Rattle.state_steps.specs.Files.{HasWholeLine, StateDisk}
use Rattle.state_steps.specs.Steps.{StateTexts}
use Rattle.state_calls.specs.Tries.{AfterTries, HoldsSince, MakesFiles, TriesKeep}
use Rattle.state_calls.proofs.begins.begin.Given as goal

abbrev pub invariant-steps : goal.invariant-steps
invariant-steps g l = record {
  due : (texts : StateTexts) (first : StateDisk)
      → AfterTries (MakesFiles texts) (g.T.StepCalls.tried l.fn.calls) first (IsBeginDueOn texts l.fn.beginning.stage)
      → AfterTries (MakesFiles texts) (g.T.StepCalls.tried l.calls) first (IsBeginDueOn texts l.beginning.stage);
  keeps : (texts : StateTexts) (first : StateDisk) (line : List ℕ)
      → AfterTries (MakesFiles texts) (g.T.StepCalls.tried l.fn.calls) first (λ disk. BeginKeeps texts l.fn.beginning disk line)
      → HasWholeLine texts.snapshot line
      → AfterTries (MakesFiles texts) (g.T.StepCalls.tried l.calls) first (λ disk. BeginKeeps texts l.beginning disk line)
      × HoldsSince (TriesKeep (MakesFiles texts) first line) (g.T.StepCalls.tried l.fn.calls) (g.T.StepCalls.tried l.calls);
  until : (step : FileStep) → l.until ≡ Some step → begin_steps_left (Change step) ≤ begin_steps_left l.fn.beginning.stage
      → begin_steps_left (Change step) ≤ begin_steps_left l.beginning.stage;
}

abbrev pub decreases-steps : goal.decreases-steps
decreases-steps g l = begin_steps_left l.beginning.stage
