use Rattle.std.proofs.Common.{◌<◌, length, ap, ◌∙◌, arith}
use Rattle.std.proofs.lemmas.List.{length_push}
use Rattle.wait_index.specs.Inside.Capacity.{GraphCapacity}
use Rattle.wait_index.specs.Index.{Index}
use Rattle.wait_index.specs.Net.{Net}
use Rattle.wait_index.specs.Inside.Tally.{Capacity}
use Rattle.wait_index.proofs.ShownFacts.{lists}
use Rattle.wait_index.proofs.reach.Reach.add_wait.Goals as goal

pub invariant_of-self : goal.invariant_of-self
invariant_of-self c =
    let r = c.self.inside in
    let k = c.self.invariant in
    let net = c.add_wait.ensures.net in
    let graph_room = c.add_wait.ensures.graph_room in
    let room = c.add_wait.ensures.room in
    let some : 0 < r.room.edges = omega (arith, c.requires.room, ap (λ (x : Index). x.room.edges) c.self.view_is) in
    let waits = ap (λ (n : Net). length n.waits) net ∙ length_push r.graph.waits.edges.items (record { from = c.number.result; to = c.number-2.result }) in
    let offers = ap (λ (n : Net). length n.offers) net in
    let roots = ap (λ (n : Net). length n.roots) net in
    let closed = ap (λ (n : Net). length n.closed) net in
    record {
      settled = c.add_wait.ensures.settled;
      few = omega (arith, k.few, some, offers, waits);
      few_nodes = omega (arith, k.few_nodes, roots);
      few_labels = omega (arith, k.few_labels, closed);
      nodes = omega (arith, k.nodes, roots, ap (λ (g : GraphCapacity). g.nodes) graph_room);
      marked_nodes = omega (arith, k.marked_nodes, roots, ap (λ (g : Capacity). g.nodes) room);
      labels = omega (arith, k.labels, closed, ap (λ (g : GraphCapacity). g.labels) graph_room);
      open_labels = omega (arith, k.open_labels, closed, ap (λ (g : Capacity). g.labels) room);
      offers = omega (arith, k.offers, some, offers, ap (λ (g : GraphCapacity). g.offers) graph_room);
      waits = omega (arith, k.waits, some, waits, ap (λ (g : GraphCapacity). g.waits) graph_room);
      fallen = omega (arith, k.fallen, roots);
      last_nodes = omega (arith, k.last_nodes, roots);
    }

pub returns-clause-marked : goal.returns-clause-marked
returns-clause-marked c = lists c.add_wait.new.graph c.add_wait.new.self c.add_wait.ensures.settled
