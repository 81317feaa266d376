use Rattle.sorted_order.proofs.OrderFacts.{insertion_keeps_lem}
use Rattle.sorted_order.proofs.laws.insertion_keeps_order.Goals as goal

pub returns : goal.returns
returns g c = insertion_keeps_lem
