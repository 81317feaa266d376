-- The journal is as it has to be for the next step, and no line was lost.
use Rattle.std.proofs.Common.{◌≡◌, ℕ, List}
use Rattle.state_steps.specs.Files.{KeepsLine, StateDisk}
use Rattle.state_steps.specs.Resumes.{IsCutAtLine, IsReadNow, IsResumedOn, ResumeKeeps, ResumeTexts}
use Rattle.state_calls.specs.Tries.{AfterTries, HoldsSince, MakesResumed, TriesKeep}
use Rattle.state_calls.proofs.TryFacts.{resumed_at}
use Rattle.state_calls.proofs.resumes.resume.Given as goal

abbrev pub invariant-steps : goal.invariant-steps
invariant-steps g l = record {
  due : (texts : ResumeTexts) (first : StateDisk)
      → AfterTries (MakesResumed texts.cut) (g.T.StepCalls.tried l.fn.calls) first (λ disk. IsReadNow texts.found disk.journal)
      → AfterTries (MakesResumed texts.cut) (g.T.StepCalls.tried l.calls) first (IsResumedOn texts l.resuming.stage);
  keeps : (texts : ResumeTexts) (first : StateDisk) (line : List ℕ) → IsCutAtLine texts
      → AfterTries (MakesResumed texts.cut) (g.T.StepCalls.tried l.fn.calls) first
      (λ disk. IsReadNow texts.found disk.journal × KeepsLine disk line)
      → AfterTries (MakesResumed texts.cut) (g.T.StepCalls.tried l.calls) first (λ disk. ResumeKeeps texts l.resuming disk line)
      × HoldsSince (TriesKeep (MakesResumed texts.cut) first line) (g.T.StepCalls.tried l.fn.calls) (g.T.StepCalls.tried l.calls);
  stage : l.resuming.stage ≡ resumed_at l.counter;
}
