use Rattle.std.proofs.Common.{◌<◌, length, refl, ap, ◌∙◌, subst, arith}
use Rattle.std.proofs.lemmas.Bool.{false_from_ne_true}
use Rattle.wait_index.specs.Index.{Index}
use Rattle.wait_index.specs.Inside.Capacity.{GraphCapacity}
use Rattle.wait_index.specs.Net.{Net, ClosesIn, visits_of}
use Rattle.wait_index.specs.Inside.Tally.{Tally, Capacity, net_of, tally_of, is_open_in}
use Rattle.wait_index.proofs.CloseFacts.{open-shown}
use Rattle.wait_index.proofs.FollowFacts.{Follows-nodes}
use Rattle.wait_index.proofs.NetLawFacts.{length-all_set}
use Rattle.wait_index.proofs.ShownFacts.{lists, visits-shown}
use Rattle.wait_index.proofs.reach.Reach.close_labels.Goals as goal

pub invariant_of-self : goal.invariant_of-self
invariant_of-self c =
    let r = c.self.inside in
    let k = c.self.invariant in
    let net = c.close.ensures.net in
    let offers = ap (λ (n : Net). length n.offers) net in
    let waits = ap (λ (n : Net). length n.waits) net in
    let roots = ap (λ (n : Net). length n.roots) net in
    let closed = ap (λ (n : Net). length n.closed) net ∙ length-all_set c.args.labels.now r.graph.closed.items in
    let graph_room = c.close.ensures.graph_room in
    let room = c.close.ensures.room in
    record {
      settled = c.close.ensures.settled;
      few = omega (arith, k.few, offers, waits);
      few_nodes = omega (arith, k.few_nodes, roots);
      few_labels = omega (arith, k.few_labels, closed);
      nodes = omega (arith, k.nodes, roots, ap (λ (g : GraphCapacity). g.nodes) graph_room);
      marked_nodes = omega (arith, k.marked_nodes, roots, ap (λ (g : Capacity). g.nodes) room);
      labels = omega (arith, k.labels, closed, ap (λ (g : GraphCapacity). g.labels) graph_room);
      open_labels = omega (arith, k.open_labels, closed, ap (λ (g : Capacity). g.labels) room);
      offers = omega (arith, k.offers, offers, ap (λ (g : GraphCapacity). g.offers) graph_room);
      waits = omega (arith, k.waits, waits, ap (λ (g : GraphCapacity). g.waits) graph_room);
      fallen = omega (
        arith,
        c.close.ensures.many,
        Follows-nodes (net_of r.graph) (length r.marks.marked.items.items) 0 0 (tally_of r.marks) k.settled.follows,
        roots,
      );
      last_nodes = omega (arith, k.last_nodes, c.close.ensures.last_room, roots);
    }

pub returns : goal.returns
returns c =
    let r = c.self.inside in
    let k = c.self.invariant.settled in
    let m = c.close.new.self in
    let g = c.close.new.graph in
    let labels = c.args.labels.now in
    let before = visits-shown (net_of r.graph) (tally_of r.marks) k r.marks.touched.listed r.graph.shaped.labels in
    let after = visits-shown (net_of g) (tally_of m) c.close.ensures.settled m.touched.listed g.shaped.labels in
    rw (← c.self.view_is) (record {
      net = c.close.ensures.net;
      marked = lists g m c.close.ensures.settled;
      unopened = λ unopened. ap (λ (t : Tally). t.marked) (c.close.ensures.shut (λ l a.
          false_from_ne_true (is_open_in (tally_of r.marks) l) (λ o.
          let within : l < length r.graph.closed.items =
          omega (arith, c.requires a.0 l a.1, a.2, ap (λ (x : Index). length x.net.closed) c.self.view_is) in
          unopened l a (open-shown (net_of r.graph) (tally_of r.marks) k r.marks.touched.listed r.graph.shaped.labels l within o)))).1;
      room = refl;
      work_is = subst (λ v. ClosesIn (net_of r.graph) labels (visits_of (net_of r.graph) r.marks.marked.items.items) v c.close.result) after
          (subst (λ v. ClosesIn (net_of r.graph) labels v m.visits c.close.result) before c.close.ensures.work);
      fewer = omega (arith, before, after, c.close.ensures.fewer);
      fallen = c.close.ensures.fallen;
      many = c.close.ensures.many;
    })
