use Rattle.state_steps.proofs.AppendFacts.{append_failed}
use Rattle.state_steps.proofs.appending.Appending.failed.Goals as goal

pub returns-clause-keeps : goal.returns-clause-keeps
returns-clause-keeps c written bytes disk left line keeps fails = record {
  due = tt;
  kept = append_failed written bytes c.args.self.now.stage disk left line keeps.due keeps.kept fails;
}
