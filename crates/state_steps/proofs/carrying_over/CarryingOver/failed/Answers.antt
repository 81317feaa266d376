use Rattle.state_steps.proofs.CarryFacts.{safe_within}
use Rattle.state_steps.proofs.carrying_over.CarryingOver.failed.Goals as goal

pub returns-clause-keeps : goal.returns-clause-keeps
returns-clause-keeps c texts disk left line apart keeps fails = record {
  due = tt;
  kept = λ found at. safe_within texts c.args.self.now.stage disk found line apart keeps.due keeps.kept (fails found at);
}
