use Rattle.sorted_order.proofs.OrderFacts.{order_rises_lem}
use Rattle.sorted_order.proofs.laws.order_rises.Goals as goal

pub returns : goal.returns
returns g c = order_rises_lem
