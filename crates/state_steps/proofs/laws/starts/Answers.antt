use Rattle.state_steps.proofs.CarryFacts.{safe_again, start_same}
use Rattle.state_steps.proofs.laws.starts.Goals as goal

pub returns-clause-again : goal.returns-clause-again
returns-clause-again c texts found line safe = safe_again texts found line safe

pub returns-clause-same : goal.returns-clause-same
returns-clause-same c texts found = start_same texts found
