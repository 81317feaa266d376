use Rattle.state_steps.proofs.AppendFacts.{read_now}
use Rattle.state_steps.proofs.laws.readings.Goals as goal

pub returns : goal.returns
returns c disk snapshot journal line at_snapshot at_journal keeps = read_now disk snapshot journal line at_snapshot at_journal keeps
