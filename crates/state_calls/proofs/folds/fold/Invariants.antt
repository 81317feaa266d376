-- The files are as they have to be for the next step, and no line was lost.
use Rattle.std.specs.Prelude.{◌≢◌}
use Rattle.std.proofs.Common.{◌≡◌, ℕ, List, [], ◌∷◌, None, Some}
use Rattle.state_steps.specs.Files.{StateDisk, kept_file}
use Rattle.state_steps.specs.Folds.{FoldKeeps, IsDueOn}
use Rattle.state_steps.specs.Steps.{StateTexts, WritesLine}
use Rattle.state_steps.specs.declared.file_step.FileStep.{FileStep}
use Rattle.state_steps.specs.declared.file_step.FileStep.TheVariants.{SyncJournal}
use Rattle.state_steps.specs.declared.folding.FoldEnd.TheVariants.{JournalContinues}
use Rattle.state_calls.specs.Looks.{end_of_fold}
use Rattle.state_calls.specs.Tries.{AfterTries, HoldsSince, MakesFiles, TriesKeep}
use Rattle.state_calls.proofs.TryFacts.{fold_left}
use Rattle.state_calls.proofs.folds.fold.Given as goal

abbrev pub invariant-steps : goal.invariant-steps
invariant-steps g l = record {
  due : (texts : StateTexts) (first : StateDisk)
      → AfterTries (MakesFiles texts) (g.T.FoldCalls.tried l.fn.calls) first (IsDueOn texts l.fn.folding.next)
      → AfterTries (MakesFiles texts) (g.T.FoldCalls.tried l.calls) first (IsDueOn texts l.folding.next);
  snapshot : (texts : StateTexts) (first : StateDisk) → l.fn.folding.next ≢ None → l.folding.next ≡ None
      → AfterTries (MakesFiles texts) (g.T.FoldCalls.tried l.fn.calls) first (IsDueOn texts l.fn.folding.next)
      → AfterTries (MakesFiles texts) (g.T.FoldCalls.tried l.calls) first (λ disk. disk.snapshot ≡ kept_file texts.snapshot ∷ []);
  keeps : (texts : StateTexts) (first : StateDisk) (line : List ℕ)
      → AfterTries (MakesFiles texts) (g.T.FoldCalls.tried l.fn.calls) first (λ disk. FoldKeeps texts l.fn.folding disk line)
      → WritesLine texts l.fn.folding.next line
      → AfterTries (MakesFiles texts) (g.T.FoldCalls.tried l.calls) first (λ disk. FoldKeeps texts l.folding disk line)
      × WritesLine texts l.folding.next line
      × HoldsSince (TriesKeep (MakesFiles texts) first line) (g.T.FoldCalls.tried l.fn.calls) (g.T.FoldCalls.tried l.calls);
  end : (step : FileStep) → end_of_fold (g.T.FoldCalls.tried l.fn.calls) ≡ JournalContinues → l.folding.next ≡ Some step
      → step ≢ SyncJournal → end_of_fold (g.T.FoldCalls.tried l.calls) ≡ JournalContinues;
}

abbrev pub decreases-steps : goal.decreases-steps
decreases-steps g l = fold_left l.folding.next
