use Rattle.state_steps.proofs.BeginFacts.{begin_failed}
use Rattle.state_steps.proofs.beginning.Beginning.failed.Goals as goal

pub returns-clause-keeps : goal.returns-clause-keeps
returns-clause-keeps c texts disk left line keeps fails = record {
  due = tt;
  kept = begin_failed texts c.args.self.now.stage disk left line keeps.due keeps.kept fails;
}
