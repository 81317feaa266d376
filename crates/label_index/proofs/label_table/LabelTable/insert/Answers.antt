-- A label that is missing comes into its place.
use Rattle.std.proofs.Common.{arith, sym, subst}
use Rattle.sorted_order.specs.ArenaView.{ArenaView, in_order}
use Rattle.sorted_order.specs.Sought.{IsMissing}
use Rattle.sorted_order.proofs.PickedFacts.{length-picked}
use Rattle.label_index.specs.declared.label.Label.{Label}
use Rattle.label_index.specs.Labels.{IsInOrder, label_cmp}
use Rattle.label_index.proofs.LabelOrderFacts.{in_order-insert}
use Rattle.label_index.proofs.label_table.LabelTable.insert.Goals as goal

pub insert_with_hint-requires-clause-place : goal.insert_with_hint-requires-clause-place
insert_with_hint-requires-clause-place c =
    let labels = c.self.inside.labels in
    let arranged = c.len-count.ensures.arranged in
    let missing : IsMissing (λ item. label_cmp item c.args.label) (in_order labels) c.args.at =
    subst (λ (t : ArenaView Label). IsMissing (λ item. label_cmp item c.args.label) (in_order t) c.args.at)
    (sym c.self.view_is) c.requires.missing
    in
    omega (
      arith,
      missing.within,
      length-picked labels.items labels.order arranged.within,
      arranged.counted,
    )

pub invariant_of-self : goal.invariant_of-self
invariant_of-self c =
    let labels = c.self.inside.labels in
    let missing : IsMissing (λ item. label_cmp item c.args.label) (in_order labels) c.args.at =
    subst (λ (t : ArenaView Label). IsMissing (λ item. label_cmp item c.args.label) (in_order t) c.args.at)
    (sym c.self.view_is) c.requires.missing
    in
    subst IsInOrder (sym c.insert_with_hint.ensures.in_order)
    (in_order-insert (in_order labels) c.args.at c.args.label c.self.invariant missing)
