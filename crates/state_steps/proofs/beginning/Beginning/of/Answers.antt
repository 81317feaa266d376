use Rattle.state_steps.proofs.BeginFacts.{loaded_alone}
use Rattle.state_steps.proofs.beginning.Beginning.of.Goals as goal

pub returns-in-true-false-clause-keeps : goal.returns-in-true-false-clause-keeps
returns-in-true-false-clause-keeps c texts disk line found keeps = record {
  due = tt;
  kept = loaded_alone c.args.found disk line c.in-true-false.is-1 found keeps;
}
