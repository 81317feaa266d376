-- The run of the key in the order has the numbers of its labels.
use Rattle.std.proofs.Common.{arith, length, ap}
use Rattle.sorted_order.specs.ArenaView.{ArenaView, in_order}
use Rattle.label_index.specs.declared.label.Label.{Label}
use Rattle.label_index.specs.Labels.{IsOfKey}
use Rattle.label_index.proofs.KeyRunFacts.{key-rises, key-fits, key-numbers, numbers-sorted}
use Rattle.label_index.proofs.label_table.LabelTable.list_key.Goals as goal

pub numbers_matching-numbers-requires : goal.numbers_matching-numbers-requires
numbers_matching-numbers-requires c =
    key-rises (in_order c.self.inside.labels) c.args.domain c.args.key c.self.invariant

pub list_numbers-requires : goal.list_numbers-requires
list_numbers-requires c =
    let m = c.numbers_matching-numbers.ensures in
    omega (
      arith,
      ap length m.numbers,
      key-fits c.self.inside.labels c.args.domain c.args.key m.arranged,
      ap (λ (t : ArenaView Label). length t.items) c.self.view_is,
      c.requires,
    )

pub returns-clause-numbers : goal.returns-clause-numbers
returns-clause-numbers c =
    let m = c.numbers_matching-numbers.ensures in
    let meant = IsOfKey c.args.domain c.args.key in
    rw (← c.self.view_is)
    (numbers-sorted c.self.inside.labels.items meant _ _ c.sort_unstable.ensures.permutation
    (rw (c.list_numbers.ensures.numbers, m.numbers)
    (key-numbers c.self.inside.labels c.args.domain c.args.key m.arranged)))
