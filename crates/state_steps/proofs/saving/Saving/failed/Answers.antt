use Rattle.state_steps.proofs.SaveFacts.{save_failed}
use Rattle.state_steps.proofs.saving.Saving.failed.Goals as goal

pub returns-clause-keeps : goal.returns-clause-keeps
returns-clause-keeps c texts disk left line keeps fails = record {
  due = tt;
  kept = save_failed texts c.args.self.now.stage disk left line keeps.due keeps.kept fails;
}
