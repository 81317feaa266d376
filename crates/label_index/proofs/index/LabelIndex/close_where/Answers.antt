-- The listed labels are those that are meant, and they are closed together.
use Rattle.std.proofs.Common.{◌∙◌, length, arith, refl, ap}
use Rattle.wait_index.specs.declared.room.Room.{Room}
use Rattle.wait_index.specs.Net.{Net}
use Rattle.wait_index.proofs.NetLawFacts.{length-all_set}
use Rattle.label_index.specs.Labels.{AreNumbersOf}
use Rattle.label_index.proofs.ClosedLabelFacts.{closed-at-once}
use Rattle.label_index.proofs.index.LabelIndex.close_where.Goals as goal

pub invariant_of-self : goal.invariant_of-self
invariant_of-self g c = record {
  sizes = ap (λ (net : Net). length net.closed) c.close_labels.ensures.net
      ∙ length-all_set c.as_slice-meant.result.now c.self.inside.reach.net.closed
      ∙ c.self.invariant.sizes;
  reached = c.close_labels.ensures.marked;
  closing = omega (arith, c.self.invariant.closing, c.list_meant.ensures.room);
}

pub returns-clause-closes : goal.returns-clause-closes
returns-clause-closes g c =
    let e = c.close_labels.ensures in
    let labels = c.self.inside.labels in
    let numbers = c.as_slice-meant.result.now in
    let IsMeant = g.T.LabelTest.IsMeant c.args.test.now in
    let are : AreNumbersOf labels.items IsMeant numbers =
    rw (c.as_slice-meant.ensures.value, ← c.items.ensures) c.list_meant.ensures.numbers
    in
    let closed =
    closed-at-once labels.items IsMeant numbers c.self.inside.reach.net are c.self.invariant.sizes
    in
    rw (← c.self.view_is)
    (record {
      labels = refl;
      net = rw e.net closed;
      nodes = ap (λ (room : Room). room.nodes) e.room;
      edges = rw (e.room, c.list_meant.ensures.room) refl;
      numbers = numbers;
      are = are;
      work = e.work_is;
      fewer = e.fewer;
      fallen = e.fallen;
      many = e.many;
    })
