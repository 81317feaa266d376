use Rattle.std.proofs.Common.{false, subst, sym}
use Rattle.state_steps.specs.Carries.{FailsCarry}
use Rattle.state_calls.specs.Tries.{MakesCarried}
use Rattle.state_calls.proofs.TryFacts.{carry_due, last_try}
use Rattle.state_calls.proofs.carries.try_carry.Goals as goal

pub returns-in-Err-clause-keeps : goal.returns-in-Err-clause-keeps
returns-in-Err-clause-keeps g c texts first line apart keeps disk may =
    let due = carry_due c.args.carrying.now.stage c.in-Some.step c.in-Some.ensures in
    let last = last_try (MakesCarried texts) c.in-Some.step false (g.T.StepCalls.tried c.args.calls.now)
    (g.T.StepCalls.tried c.try_step.new.self) first disk c.in-Err.ensures may in
    c.failed.ensures.keeps texts last.0 disk line apart (keeps last.0 last.1)
    (subst (λ stage. FailsCarry texts stage last.0 disk) (sym due) last.2)
