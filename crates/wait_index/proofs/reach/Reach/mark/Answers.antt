use Rattle.wait_index.proofs.ShownFacts.{lists}
use Rattle.wait_index.proofs.reach.Reach.mark.Goals as goal

pub returns-clause-marked : goal.returns-clause-marked
returns-clause-marked c = lists c.add_root.new.graph c.add_root.new.self c.add_root.ensures.settled
