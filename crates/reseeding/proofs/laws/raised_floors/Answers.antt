use Rattle.reseeding.proofs.NewConfigFacts.{no_lower}
use Rattle.reseeding.proofs.laws.raised_floors.Goals as goal

pub returns : goal.returns
returns c = no_lower
