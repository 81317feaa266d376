use Rattle.std.proofs.Common.{ap, false, subst, sym, true, ◌∙◌}
use Rattle.state_steps.specs.Resumes.{IsResumedOn, following_resume, resume_step}
use Rattle.state_calls.specs.Tries.{MakesResumed, TriesKeep}
use Rattle.state_calls.proofs.TryFacts.{no_try, one_try, resumed_first, resumed_next}
use Rattle.state_calls.proofs.resumes.resume.Goals as goal

pub steps-init : goal.steps-init
steps-init g c =
    let first = resumed_first c.begin-resuming.result.stage c.begin-resuming.ensures.steps in
    record {
      due = λ texts start due disk may. subst (λ stage. IsResumedOn texts stage disk) (sym first) (due disk may);
      keeps = λ texts start line is_cut kept. (
        λ disk may. c.begin-resuming.ensures.keeps texts disk line (kept disk may).0 (kept disk may).1,
        no_try (TriesKeep (MakesResumed texts.cut) start line) (g.T.StepCalls.tried c.args.calls.now)
            (λ disk may. (kept disk may).1),
      );
      stage = first;
    }

pub steps-preserved : goal.steps-preserved
steps-preserved g c =
    let tried = g.T.StepCalls.tried in
    let due = resume_step c.steps.resuming.stage in
    record {
      due = λ texts first is. c.in_ok-try_resume.ensures.due texts first (c.steps.invariant.due texts first is);
      keeps = λ texts first line is_cut kept.
          let until = c.steps.invariant.keeps texts first line is_cut kept in
          let keeps = c.in_ok-try_resume.ensures.keeps texts first line is_cut until.0 in (
            keeps,
            one_try (TriesKeep (MakesResumed texts.cut) first line) due true (tried c.args.calls.now) (tried c.steps.calls)
                (tried c.try_resume.new.calls) c.in_ok-try_resume.ensures.tried until.1
                (λ disk may. c.stops.ensures.resume texts c.try_resume.new.resuming disk line (keeps disk may)),
          );
      stage = c.in_ok-try_resume.ensures.next ∙ ap following_resume c.steps.invariant.stage ∙ resumed_next c.steps.counter;
    }

pub returns-in_err-try_resume-clause-keeps : goal.returns-in_err-try_resume-clause-keeps
returns-in_err-try_resume-clause-keeps g c texts first line is_cut kept =
    let tried = g.T.StepCalls.tried in
    let due = resume_step c.steps.resuming.stage in
    let until = c.steps.invariant.keeps texts first line is_cut kept in
    let keeps = c.in_err-try_resume.ensures.keeps texts first line is_cut until.0 in
    one_try (TriesKeep (MakesResumed texts.cut) first line) due false (tried c.args.calls.now) (tried c.steps.calls)
    (tried c.try_resume.new.calls) c.in_err-try_resume.ensures.tried until.1
    (λ disk may. c.stops.ensures.resume texts c.try_resume.new.resuming disk line (keeps disk may))

pub returns-clause-keeps : goal.returns-clause-keeps
returns-clause-keeps g c texts first line is_cut kept = (c.steps.invariant.keeps texts first line is_cut kept).1
