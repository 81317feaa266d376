use Rattle.wait_index.proofs.GrowthFacts.{reached-more}
use Rattle.wait_index.proofs.laws.more_reaches_no_less.Goals as goal

pub returns : goal.returns
returns c = reached-more
