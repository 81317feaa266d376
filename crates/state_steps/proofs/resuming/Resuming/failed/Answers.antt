use Rattle.state_steps.proofs.ResumeFacts.{resume_failed}
use Rattle.state_steps.proofs.resuming.Resuming.failed.Goals as goal

pub returns-clause-keeps : goal.returns-clause-keeps
returns-clause-keeps c texts disk left line is keeps fails = record {
  due = tt;
  kept = resume_failed texts c.args.self.now.stage disk left line is keeps.due keeps.kept fails;
}
