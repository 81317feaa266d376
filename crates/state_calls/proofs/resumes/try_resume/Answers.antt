use Rattle.std.proofs.Common.{false, true, subst, sym}
use Rattle.state_steps.specs.Resumes.{FailsResume, ResumeKeeps, after_resume}
use Rattle.state_calls.specs.Tries.{MakesResumed}
use Rattle.state_calls.proofs.TryFacts.{last_try, resume_due}
use Rattle.state_calls.proofs.resumes.try_resume.Goals as goal

pub returns-in-Ok-clause-keeps : goal.returns-in-Ok-clause-keeps
returns-in-Ok-clause-keeps g c texts first line is_cut keeps disk may =
    let due = resume_due c.args.resuming.now.stage c.in-Some.step c.in-Some.ensures in
    let last = last_try (MakesResumed texts.cut) c.in-Some.step true (g.T.StepCalls.tried c.args.calls.now)
    (g.T.StepCalls.tried c.try_step.new.self) first disk c.in-Ok.ensures may in
    subst (λ d. ResumeKeeps texts c.done.new.self d line) (sym last.2)
    (subst (λ stage. ResumeKeeps texts c.done.new.self (after_resume texts.cut stage last.0) line) due
    (c.done.ensures.keeps texts last.0 line is_cut (keeps last.0 last.1)))

pub returns-in-Err-clause-keeps : goal.returns-in-Err-clause-keeps
returns-in-Err-clause-keeps g c texts first line is_cut keeps disk may =
    let due = resume_due c.args.resuming.now.stage c.in-Some.step c.in-Some.ensures in
    let last = last_try (MakesResumed texts.cut) c.in-Some.step false (g.T.StepCalls.tried c.args.calls.now)
    (g.T.StepCalls.tried c.try_step.new.self) first disk c.in-Err.ensures may in
    c.failed.ensures.keeps texts last.0 disk line is_cut (keeps last.0 last.1)
    (subst (λ stage. FailsResume texts.cut stage last.0 disk) (sym due) last.2)
