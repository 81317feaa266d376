use Rattle.wait_index.proofs.NetLawFacts.{closed-all, closed-order}
use Rattle.wait_index.proofs.laws.closes_in_any_order.Goals as goal

pub returns-clause-closed : goal.returns-clause-closed
returns-clause-closed c = closed-all

pub returns-clause-order : goal.returns-clause-order
returns-clause-order c = closed-order
