use Rattle.std.proofs.Common.{◌≡◌, ◌<◌, false, length, ap, sym, subst, arith}
use Rattle.std.proofs.lemmas.List.{length_push}
use Rattle.wait_index.specs.Inside.Capacity.{GraphCapacity}
use Rattle.wait_index.specs.Index.{Index}
use Rattle.wait_index.specs.Net.{Net, has_wait}
use Rattle.wait_index.specs.Inside.Tally.{Capacity, net_of, tally_of}
use Rattle.wait_index.proofs.GrowthFacts.{IsSettled-node}
use Rattle.wait_index.proofs.ShownFacts.{lists, has_wait-past}
use Rattle.wait_index.proofs.reach.Reach.add_node.Goals as goal

pub invariant_of-self : goal.invariant_of-self
invariant_of-self c =
    let r = c.self.inside in
    let k = c.self.invariant in
    let net = c.add_node.ensures.net in
    let graph_room = c.add_node.ensures.capacity in
    let room = c.add_node-2.ensures.capacity in
    let some : 0 < r.room.nodes = omega (arith, c.requires, ap (λ (x : Index). x.room.nodes) c.self.view_is) in
    let offers = ap (λ (n : Net). length n.offers) net in
    let waits = ap (λ (n : Net). length n.waits) net in
    let roots = ap (λ (n : Net). length n.roots) net in
    let closed = ap (λ (n : Net). length n.closed) net in
    record {
      settled = rw (net, c.add_node-2.ensures.tally) (IsSettled-node (net_of r.graph) (tally_of r.marks) k.settled);
      few = omega (arith, k.few, offers, waits);
      few_nodes = omega (arith, k.few_nodes, roots, length_push r.graph.roots.items false, some);
      few_labels = omega (arith, k.few_labels, closed);
      nodes = omega (arith, k.nodes, roots, length_push r.graph.roots.items false, some, ap (λ (g : GraphCapacity). g.nodes) graph_room);
      marked_nodes = omega (arith, k.marked_nodes, roots, length_push r.graph.roots.items false, some, ap (λ (g : Capacity). g.nodes) room);
      labels = omega (arith, k.labels, closed, ap (λ (g : GraphCapacity). g.labels) graph_room);
      open_labels = omega (arith, k.open_labels, closed, ap (λ (g : Capacity). g.labels) room);
      offers = omega (arith, k.offers, offers, ap (λ (g : GraphCapacity). g.offers) graph_room);
      waits = omega (arith, k.waits, waits, ap (λ (g : GraphCapacity). g.waits) graph_room);
      fallen = omega (arith, k.fallen, roots, length_push r.graph.roots.items false);
      last_nodes = omega (arith, k.last_nodes, roots, length_push r.graph.roots.items false, some);
    }

pub returns-clause-awaits : goal.returns-clause-awaits
returns-clause-awaits c =
    let r = c.self.inside in
    subst (λ (n : Net). has_wait n c.new-node.result ≡ false) (sym c.add_node.ensures.net)
    (has_wait-past (net_of r.graph) c.new-node.result r.graph.shaped.nodes
    (omega (arith, c.new-node.ensures, c.len.ensures, r.graph.roots.ok.0)))

pub returns-clause-reached : goal.returns-clause-reached
returns-clause-reached c = lists c.add_node.new.self c.add_node-2.new.self (invariant_of-self c).settled
