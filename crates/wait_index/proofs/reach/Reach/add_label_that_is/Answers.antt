use Rattle.std.proofs.Common.{◌<◌, length, ap, arith}
use Rattle.std.proofs.lemmas.List.{length_push}
use Rattle.wait_index.specs.Inside.Capacity.{GraphCapacity}
use Rattle.wait_index.specs.Index.{Index}
use Rattle.wait_index.specs.Net.{Net}
use Rattle.wait_index.specs.Inside.Tally.{Capacity, net_of, tally_of}
use Rattle.wait_index.proofs.GrowthFacts.{IsSettled-label}
use Rattle.wait_index.proofs.ShownFacts.{lists}
use Rattle.wait_index.proofs.reach.Reach.add_label_that_is.Goals as goal

pub invariant_of-self : goal.invariant_of-self
invariant_of-self c =
    let r = c.self.inside in
    let k = c.self.invariant in
    let net = c.add_label.ensures.net in
    let graph_room = c.add_label.ensures.capacity in
    let room = c.add_label-2.ensures.capacity in
    let some : 0 < r.room.labels = omega (arith, c.requires, ap (λ (x : Index). x.room.labels) c.self.view_is) in
    let offers = ap (λ (n : Net). length n.offers) net in
    let waits = ap (λ (n : Net). length n.waits) net in
    let roots = ap (λ (n : Net). length n.roots) net in
    let closed = ap (λ (n : Net). length n.closed) net in
    record {
      settled = rw (net, c.add_label-2.ensures.tally) (IsSettled-label (net_of r.graph) c.args.closed r.graph.shaped.labels (tally_of r.marks) k.settled);
      few = omega (arith, k.few, offers, waits);
      few_nodes = omega (arith, k.few_nodes, roots);
      few_labels = omega (arith, k.few_labels, closed, length_push r.graph.closed.items c.args.closed, some);
      nodes = omega (arith, k.nodes, roots, ap (λ (g : GraphCapacity). g.nodes) graph_room);
      marked_nodes = omega (arith, k.marked_nodes, roots, ap (λ (g : Capacity). g.nodes) room);
      labels = omega (arith, k.labels, closed, length_push r.graph.closed.items c.args.closed, some, ap (λ (g : GraphCapacity). g.labels) graph_room);
      open_labels = omega (arith, k.open_labels, closed, length_push r.graph.closed.items c.args.closed, some, ap (λ (g : Capacity). g.labels) room);
      offers = omega (arith, k.offers, offers, ap (λ (g : GraphCapacity). g.offers) graph_room);
      waits = omega (arith, k.waits, waits, ap (λ (g : GraphCapacity). g.waits) graph_room);
      fallen = omega (arith, k.fallen, roots);
      last_nodes = omega (arith, k.last_nodes, roots);
    }

pub returns-clause-reached : goal.returns-clause-reached
returns-clause-reached c = lists c.add_label.new.self c.add_label-2.new.self (invariant_of-self c).settled
