use Rattle.sorted_order.proofs.PickedFacts.{length-in_order}
use Rattle.sorted_order.proofs.laws.each_item_is_in_order.Goals as goal

pub returns : goal.returns
returns g c = length-in_order
