-- Labels are searched in their order.
use Rattle.sorted_order.specs.ArenaView.{in_order}
use Rattle.label_index.proofs.LabelOrderFacts.{rising-from_in_order}
use Rattle.label_index.proofs.label_table.LabelTable.find.Goals as goal

pub find_by_guess-requires : goal.find_by_guess-requires
find_by_guess-requires c =
    rising-from_in_order (in_order c.self.inside.labels) c.args.label c.self.invariant
