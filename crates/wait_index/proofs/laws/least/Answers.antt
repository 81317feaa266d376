use Rattle.std.proofs.Common.{◌≡◌, true}
use Rattle.wait_index.specs.Net.{root, step}
use Rattle.wait_index.proofs.NetLawFacts.{reached-least}
use Rattle.wait_index.proofs.laws.least.Goals as goal

pub returns-clause-roots : goal.returns-clause-roots
returns-clause-roots g c net node e = root e

pub returns-clause-steps : goal.returns-clause-steps
returns-clause-steps g c net node label next i j r e o w = step r e o w

pub returns-clause-least : goal.returns-clause-least
returns-clause-least g c net = reached-least net g.S.SetOfNodes.has

pub returns-clause-tests : goal.returns-clause-tests
returns-clause-tests g c net nodes = reached-least net (λ node. nodes node ≡ true)
