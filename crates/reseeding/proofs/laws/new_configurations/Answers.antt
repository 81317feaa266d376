use Rattle.reseeding.proofs.NewConfigFacts.{new_is}
use Rattle.reseeding.proofs.laws.new_configurations.Goals as goal

pub returns : goal.returns
returns c = new_is
