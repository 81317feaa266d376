use Rattle.std.proofs.Common.{sym, subst}
use Rattle.state_steps.specs.Resumes.{IsResumedOn, after_resume}
use Rattle.state_steps.proofs.ResumeFacts.{resume_due, resume_kept}
use Rattle.state_steps.proofs.resuming.Resuming.done.Goals as goal

pub returns-clause-keeps : goal.returns-clause-keeps
returns-clause-keeps c texts disk line is keeps =
    let stage = c.args.self.now.stage in
    record {
      due = subst (λ s. IsResumedOn texts s (after_resume texts.cut stage disk)) (sym c.stage_after-self.ensures)
          (resume_due texts stage disk keeps.due);
      kept = resume_kept texts stage disk line is keeps.due keeps.kept;
    }
