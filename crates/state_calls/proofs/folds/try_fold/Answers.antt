use Rattle.std.proofs.Common.{false, subst}
use Rattle.state_steps.specs.Steps.{FailsDue}
use Rattle.state_calls.specs.Tries.{MakesFiles}
use Rattle.state_calls.proofs.TryFacts.{last_try}
use Rattle.state_calls.proofs.folds.try_fold.Goals as goal

pub returns-in-Err-clause-failed : goal.returns-in-Err-clause-failed
returns-in-Err-clause-failed g c texts first line keeps disk may =
    let last = last_try (MakesFiles texts) c.in-Some.step false (g.T.FoldCalls.tried c.args.calls.now)
    (g.T.FoldCalls.tried c.try_seen.new.self) first disk c.in-Err.ensures may in
    c.failed-end.ensures.keeps texts last.0 disk line (keeps last.0 last.1)
    (subst (λ due. FailsDue texts due last.0 disk) c.in-Some.ensures last.2)
