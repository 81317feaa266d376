-- The files are as they have to be for the next step, and no line was lost.
use Rattle.std.specs.Prelude.{◌≢◌}
use Rattle.std.proofs.Common.{◌≡◌, ◌++◌, ℕ, List, Some}
use Rattle.state_steps.specs.Files.{StateDisk}
use Rattle.state_steps.specs.Shortenings.{IsShortenDue, ShortensKeeps, shorten_steps_left}
use Rattle.state_steps.specs.declared.folding.FoldEnd.TheVariants.{JournalContinues}
use Rattle.state_steps.specs.declared.shortening.ShortenStep.{ShortenStep}
use Rattle.state_steps.specs.declared.shortening.ShortenStep.TheVariants.{SyncFolder}
use Rattle.state_calls.specs.Looks.{end_of_shortening}
use Rattle.state_calls.specs.Tries.{AfterTries, HoldsSince, MakesShorter, TriesKeep}
use Rattle.state_calls.proofs.shortens.shorten.Given as goal

abbrev pub invariant-steps : goal.invariant-steps
invariant-steps g l = record {
  due : (head : List ℕ) (first : StateDisk)
      → AfterTries (MakesShorter head) (g.T.ShortenCalls.tried l.fn.calls) first (IsShortenDue (head ++ l.lines) l.fn.shortening.next)
      → AfterTries (MakesShorter head) (g.T.ShortenCalls.tried l.calls) first (IsShortenDue (head ++ l.lines) l.shortening.next);
  keeps : (head : List ℕ) (first : StateDisk) (line : List ℕ)
      → AfterTries (MakesShorter head) (g.T.ShortenCalls.tried l.fn.calls) first
      (λ disk. ShortensKeeps (head ++ l.lines) l.fn.shortening disk line)
      → AfterTries (MakesShorter head) (g.T.ShortenCalls.tried l.calls) first (λ disk. ShortensKeeps (head ++ l.lines) l.shortening disk line)
      × HoldsSince (TriesKeep (MakesShorter head) first line) (g.T.ShortenCalls.tried l.fn.calls) (g.T.ShortenCalls.tried l.calls);
  end : (step : ShortenStep) → end_of_shortening (g.T.ShortenCalls.tried l.fn.calls) ≡ JournalContinues → l.shortening.next ≡ Some step
      → step ≢ SyncFolder → end_of_shortening (g.T.ShortenCalls.tried l.calls) ≡ JournalContinues;
}

abbrev pub decreases-steps : goal.decreases-steps
decreases-steps g l = shorten_steps_left l.shortening.next
