use Rattle.std.proofs.Common.{false, subst, sym}
use Rattle.state_steps.specs.Steps.{FailsDue}
use Rattle.state_calls.specs.Tries.{MakesFiles}
use Rattle.state_calls.proofs.TryFacts.{begin_due, last_try}
use Rattle.state_calls.proofs.begins.try_begin.Goals as goal

pub returns-in-Err-clause-keeps : goal.returns-in-Err-clause-keeps
returns-in-Err-clause-keeps g c texts first line keeps writes disk may =
    let due = begin_due c.args.beginning.now.stage c.in-Some-Change.step
    (let is = c.in-Some-Change.is in let ensures = c.in-Some-Change.ensures in cc) in
    let last = last_try (MakesFiles texts) c.in-Some-Change.step false (g.T.StepCalls.tried c.args.calls.now)
    (g.T.StepCalls.tried c.try_step.new.self) first disk c.in-Err.ensures may in
    c.failed-end.ensures.keeps texts last.0 disk line (keeps last.0 last.1)
    (subst (λ due. FailsDue texts due last.0 disk) (sym due) last.2)
