-- The listed labels are those of the key, and they are closed together.
use Rattle.std.proofs.Common.{◌∙◌, length, arith, refl, ap}
use Rattle.wait_index.specs.declared.room.Room.{Room}
use Rattle.wait_index.specs.Net.{Net}
use Rattle.wait_index.proofs.NetLawFacts.{length-all_set}
use Rattle.label_index.specs.Labels.{AreNumbersOf, IsOfKey}
use Rattle.label_index.proofs.ClosedLabelFacts.{closed-at-once}
use Rattle.label_index.proofs.index.LabelIndex.close_key.Goals as goal

pub close_labels-requires : goal.close_labels-requires
close_labels-requires c k d l =
    let labels = c.self.inside.labels.items in
    let are : AreNumbersOf labels (IsOfKey c.args.domain c.args.key) c.deref.result.now =
    rw c.deref.ensures.value c.list_key.ensures.numbers
    in
    let within = are.within k d l in
    omega (arith, within, c.self.invariant.sizes)

pub invariant_of-self : goal.invariant_of-self
invariant_of-self c = record {
  sizes = ap (λ (net : Net). length net.closed) c.close_labels.ensures.net
      ∙ length-all_set c.deref.result.now c.self.inside.reach.net.closed ∙ c.self.invariant.sizes;
  reached = c.close_labels.ensures.marked;
  closing = omega (arith, c.self.invariant.closing, c.list_key.ensures.room);
}

pub returns-clause-closes : goal.returns-clause-closes
returns-clause-closes c =
    let e = c.close_labels.ensures in
    let labels = c.self.inside.labels.items in
    let numbers = c.deref.result.now in
    let are : AreNumbersOf labels (IsOfKey c.args.domain c.args.key) numbers =
    rw c.deref.ensures.value c.list_key.ensures.numbers
    in
    let closed =
    closed-at-once labels (IsOfKey c.args.domain c.args.key) numbers c.self.inside.reach.net are
    c.self.invariant.sizes
    in
    rw (← c.self.view_is)
    (record {
      labels = refl;
      net = rw e.net closed;
      nodes = ap (λ (room : Room). room.nodes) e.room;
      edges = rw (e.room, c.list_key.ensures.room) refl;
      numbers = numbers;
      are = are;
      work = e.work_is;
      fewer = e.fewer;
      fallen = e.fallen;
      many = e.many;
    })
