use Rattle.wait_index.proofs.NetLawFacts.{visits-few}
use Rattle.wait_index.proofs.laws.no_edge_twice.Goals as goal

pub returns : goal.returns
returns c = visits-few
