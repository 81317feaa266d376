use Rattle.std.proofs.Common.{◌≡◌, ◌+◌, ◌<◌, ◌≤◌, length, get_or, ap, ◌∙◌, subst, arith}
use Rattle.std.specs.Prelude.{min, vec_capacity}
use Rattle.std.proofs.lemmas.List.{length-take, get_or_push, length_push}
use Rattle.wait_index.specs.Inside.Tally.{Tally, net_of, tally_of, marks_capacity, SettlesLabel}
use Rattle.wait_index.proofs.FollowFacts.{Follows-visits, Restore-step, Settles-spreads, with_untouched}
use Rattle.wait_index.proofs.ReleaseFacts.{front-trans}
use Rattle.wait_index.proofs.marks.Marks.restore.Goals as goal

pub settle-requires-clause-visits : goal.settle-requires-clause-visits
settle-requires-clause-visits c =
    omega (
      arith,
      c.requires.few,
      Follows-visits (net_of c.args.graph.now) (length c.args.self.now.marked.items.items) 0
          0 (tally_of c.labels.self) c.labels.invariant.follows,
    )

pub labels-preserved : goal.labels-preserved
labels-preserved c =
    let g = c.args.graph.now in
    let h = c.labels.invariant in
    let s = c.labels.self in
    let start = c.args.self.now.marked.items.items in
    let label = c.take_last-label.result in
    let rest = c.take_last-label.new.self in
    let popped : Tally = with_untouched (tally_of s) rest.items.items c.take_last-label.result in
    let settles : SettlesLabel (net_of g) c.take_last-label.result popped (tally_of c.settle.new.self) =
    subst (λ ps. SettlesLabel (net_of g) c.take_last-label.result
    (record (tally_of s) { touched = rest.items.items; touched_places = ps }) (tally_of c.settle.new.self))
    c.take_last-label.ensures.places c.settle.ensures.settled
    in
    let spreads = Settles-spreads (net_of g) c.take_last-label.result popped (tally_of c.settle.new.self) settles in
    let last : get_or s.touched.items.items (length rest.items.items) 0 ≡ c.take_last-label.result =
    ap (λ xs. get_or xs (length rest.items.items) 0) c.take_last-label.ensures.items
    ∙ get_or_push rest.items.items c.take_last-label.result 0 (length rest.items.items) (omega arith)
    in
    let size : length s.touched.items.items ≡ length rest.items.items + 1 =
    ap length c.take_last-label.ensures.items ∙ length_push rest.items.items c.take_last-label.result in
    let within : c.take_last-label.result < length g.closed.items =
    omega (arith, last, s.touched.listed.within (length rest.items.items) (omega (arith, size)), h.follows.steady.sizes.touched)
    in
    let short : length start ≤ length s.marked.items.items = omega (arith, length-take (length start) s.marked.items.items, ap length h.front) in
    let capacity : marks_capacity c.settle.new.self ≡ marks_capacity s =
    c.settle.ensures.capacity
    ∙ ap (λ n. record {
      nodes = (marks_capacity s).nodes;
      labels =
          min (min (vec_capacity s.support) (vec_capacity s.opened)) (min n (vec_capacity rest.places));
    })
    c.take_last-label.ensures.items_room
    ∙ ap (λ n. record {
      nodes = (marks_capacity s).nodes;
      labels =
          min (min (vec_capacity s.support) (vec_capacity s.opened)) (min (vec_capacity s.touched.items) n);
    })
    c.take_last-label.ensures.places_room
    in
    record {
      follows = Restore-step (net_of g) (length start) c.take_last-label.result rest.items.items (tally_of s)
          (tally_of c.settle.new.self) h.follows within short c.settle.new.self.marked.listed settles;
      front = front-trans start s.marked.items.items c.settle.new.self.marked.items.items h.front spreads.front;
      visits = omega (arith, h.visits, spreads.visits);
      capacity = capacity ∙ h.capacity;
    }
