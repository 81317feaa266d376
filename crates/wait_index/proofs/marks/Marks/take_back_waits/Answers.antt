use Rattle.std.proofs.Common.{◌≡◌, ◌+◌, ◌-◌, ◌<◌, length, true, false, inr, get_or, set, refl, sym, subst, ap, ◌∙◌, arith}
use Rattle.std.proofs.lemmas.List.{get_or_read, take_all}
use Rattle.wait_index.specs.Edge.{to_at}
use Rattle.wait_index.specs.Inside.Links.{IsLast}
use Rattle.wait_index.specs.Inside.Fall.{CanFall, IsFalling, with_fallen}
use Rattle.wait_index.specs.Inside.Tally.{Tally, net_of, tally_of, is_marked_in, Falls}
use Rattle.wait_index.proofs.LinkFacts.{first_link, next_link, read_to, IsLink-last}
use Rattle.wait_index.proofs.ListingFacts.{holds-from_placed, some-from_holds}
use Rattle.wait_index.proofs.FollowFacts.{flag-here}
use Rattle.wait_index.proofs.FallFacts.{IsFalling-start, IsFalling-between, TakesBackFrom-step, visits_some, node_marked, node_can}
use Rattle.wait_index.proofs.FallenListFacts.{ListsFallen-step, fallen-many}
use Rattle.wait_index.proofs.marks.Marks.take_back_waits.Goals as goal

pub waits-init : goal.waits-init
waits-init g c =
    let graph = c.args.graph.now in
    let s = c.args.self.now in
    let f = c.requires.0 in
    let label = c.index-label.result in
    let item : c.index-label.result ≡ get_or s.touched.items.items c.args.index 0 =
    c.index-label.ensures ∙ get_or_read s.touched.items.items c.args.index c.index.result.now c.requires.1.0
    c.index.ensures 0 in
    let there = s.touched.listed.within c.args.index c.requires.1.0 in
    let within : c.index-label.result < length graph.closed.items = omega (arith, item, there, f.sizes.touched) in
    let first : IsLast graph.waits.edges.items c.index-label.result (length graph.waits.edges.items) c.index-link.result.now =
    first_link graph.waits.edges.items graph.waits.newest.items graph.waits.earlier.items c.index-label.result
    c.index-link.result.now graph.waits.linked (omega (arith, within, graph.shaped.labels_listed))
    c.index-link.ensures
    in (
      record {
        falling = IsFalling-start (net_of graph) g.closing (tally_of s) c.args.index c.index-label.result
            c.index-link.result.now f c.requires.1.0 item within first;
        at = IsLink-last graph.waits.edges.items c.index-label.result (length graph.waits.edges.items) c.index-link.result.now (omega arith) first;
        shut_label = flag-here s.opened.items c.index-label.result _ (omega (arith, within, f.sizes.opened));
        touched_label = holds-from_placed s.touched.places.items c.index-label.result
            (omega (
              arith,
              ap (λ k. get_or s.touched.places.items k 0) item,
              s.touched.listed.listed c.args.index c.requires.1.0,
            ));
        within = c.requires.1.0;
        front = take_all (length s.touched.items.items) s.touched.items.items (omega arith);
      },
      refl,
      record { reached = c.requires.1.1.0.reached; unmarked = c.requires.1.1.0.unmarked; all = c.requires.1.1.0.all; once = c.requires.1.1.0.once },
      refl,
      refl,
    )

pub overflow_sub-self : goal.overflow_sub-self
overflow_sub-self g c =
    let graph = c.args.graph.now in
    let h = c.waits.invariant.0 in
    let at : c.waits.link ≡ (c.waits.link - 1) + 1 = omega (arith, c.waits-test.true) in
    let owner = h.at.owned (c.waits.link - 1) at in
    let within : c.waits.link - 1 < length graph.waits.edges.items = omega (arith, h.at.within, at) in
    let last : IsLast graph.waits.edges.items c.index-label.result (c.waits.link - 1) (get_or graph.waits.earlier.items (c.waits.link - 1) 0) =
    subst (λ o. IsLast graph.waits.edges.items o (c.waits.link - 1)
    (get_or graph.waits.earlier.items (c.waits.link - 1) 0)) owner
    (graph.waits.linked.before (c.waits.link - 1) within)
    in
    let old : Tally = record (tally_of c.args.self.now) { opened = set c.args.self.now.opened.items c.index-label.result false } in
    omega (
      arith,
      visits_some (net_of graph) graph.shaped.once g.closing c.args.index c.index-label.result
          (c.waits.link - 1) c.waits.link (get_or graph.waits.earlier.items (c.waits.link - 1) 0) old
          (tally_of c.waits.self) h at last,
    )

pub fall-requires-clause-can : goal.fall-requires-clause-can
fall-requires-clause-can g c =
    let graph = c.args.graph.now in
    let h = c.waits.invariant.0 in
    let at : c.waits.link ≡ (c.waits.link - 1) + 1 = omega (arith, c.waits-test.true) in
    let owner = h.at.owned (c.waits.link - 1) at in
    let within : c.waits.link - 1 < length graph.waits.edges.items = omega (arith, h.at.within, at) in
    let last : IsLast graph.waits.edges.items c.index-label.result (c.waits.link - 1) (get_or graph.waits.earlier.items (c.waits.link - 1) 0) =
    subst (λ o. IsLast graph.waits.edges.items o (c.waits.link - 1)
    (get_or graph.waits.earlier.items (c.waits.link - 1) 0)) owner
    (graph.waits.linked.before (c.waits.link - 1) within)
    in
    let old : Tally = record (tally_of c.args.self.now) { opened = set c.args.self.now.opened.items c.index-label.result false } in
    let then : Tally = record (tally_of c.waits.self) { visits = c.waits.self.visits - 1 } in
    let can : CanFall (net_of graph) then (to_at graph.waits.edges.items (c.waits.link - 1)) =
    node_can (net_of graph) graph.shaped.once g.closing c.args.index c.index-label.result (c.waits.link - 1)
    c.waits.link (get_or graph.waits.earlier.items (c.waits.link - 1) 0) old (tally_of c.waits.self) h at last in
    subst (λ n. CanFall (net_of graph) then n)
    (sym (read_to graph.waits.edges.items (c.waits.link - 1) c.index-in-waits.result.now within
    c.index-in-waits.ensures)) can

pub fall-requires-clause-marked : goal.fall-requires-clause-marked
fall-requires-clause-marked g c =
    let graph = c.args.graph.now in
    let h = c.waits.invariant.0 in
    let at : c.waits.link ≡ (c.waits.link - 1) + 1 = omega (arith, c.waits-test.true) in
    let owner = h.at.owned (c.waits.link - 1) at in
    let within : c.waits.link - 1 < length graph.waits.edges.items = omega (arith, h.at.within, at) in
    let marked : is_marked_in (tally_of c.waits.self) (to_at graph.waits.edges.items (c.waits.link - 1)) ≡ true =
    h.falling.released (c.waits.link - 1) (record { within = within; by = inr (owner, omega (arith, at)) })
    in
    subst (λ n. is_marked_in (tally_of c.waits.self) n ≡ true)
    (sym (read_to graph.waits.edges.items (c.waits.link - 1) c.index-in-waits.result.now within
    c.index-in-waits.ensures)) marked

pub fall-requires-clause-last_room : goal.fall-requires-clause-last_room
fall-requires-clause-last_room g c =
    let s = c.waits.self.marked in
    omega (
      arith,
      c.requires.1.1.1,
      c.waits.invariant.3,
      c.waits.invariant.4,
      some-from_holds s.items.items s.places.items s.listed c.index-in-waits.result.now.to (fall-requires-clause-marked g c),
    )

pub waits-preserved : goal.waits-preserved
waits-preserved g c =
    let graph = c.args.graph.now in
    let h = c.waits.invariant.0 in
    let edge = c.waits.link - 1 in
    let at : c.waits.link ≡ edge + 1 = omega (arith, c.waits-test.true) in
    let within : edge < length graph.waits.edges.items = omega (arith, h.at.within, at) in
    let last = next_link graph.waits.edges.items graph.waits.newest.items graph.waits.earlier.items c.index-label.result
    edge c.waits.link c.index-link-in-waits.result.now graph.waits.linked h.at at c.index-link-in-waits.ensures in
    let old : Tally = record (tally_of c.args.self.now) { opened = set c.args.self.now.opened.items c.index-label.result false } in
    let then : Tally = record (tally_of c.waits.self) { visits = c.waits.self.visits - 1 } in
    let falls : Falls (net_of graph) (to_at graph.waits.edges.items edge) then (tally_of c.fall.new.self) =
    subst (λ n. Falls (net_of graph) n then (tally_of c.fall.new.self))
    (read_to graph.waits.edges.items edge c.index-in-waits.result.now within c.index-in-waits.ensures)
    c.fall.ensures.falls
    in
    let marked = node_marked (net_of graph) graph.shaped.once g.closing c.args.index c.index-label.result edge
    c.waits.link c.index-link-in-waits.result.now old (tally_of c.waits.self) h at last in
    let node = to_at graph.waits.edges.items edge in
    let listed : c.fall.new.last.fallen.items ≡ with_fallen (net_of graph) node c.waits.last.fallen.items =
    subst (λ n. c.fall.new.last.fallen.items ≡ with_fallen (net_of graph) n c.waits.last.fallen.items)
    (read_to graph.waits.edges.items edge c.index-in-waits.result.now within c.index-in-waits.ensures)
    c.fall.ensures.listed
    in (
      TakesBackFrom-step (net_of graph) graph.shaped.once g.closing c.args.index c.index-label.result edge c.waits.link
          c.index-link-in-waits.result.now old (tally_of c.waits.self) h at last (tally_of c.fall.new.self) falls
          c.fall.new.self.marked.listed c.fall.new.self.touched.listed,
      c.fall.ensures.capacity ∙ c.waits.invariant.1,
      rw listed (ListsFallen-step (net_of graph) node (tally_of c.waits.self) (c.waits.self.visits - 1)
          (tally_of c.fall.new.self) c.waits.last.fallen.items falls marked (h.falling.sound node marked)
          c.waits.invariant.2),
      omega (
        arith,
        c.waits.invariant.3,
        ap length listed,
        fallen-many (net_of graph) node (tally_of c.waits.self) (c.waits.self.visits - 1) (tally_of c.fall.new.self)
            c.waits.last.fallen.items falls marked c.waits.self.marked.listed c.fall.new.self.marked.listed,
      ),
      c.fall.ensures.last_room ∙ c.waits.invariant.4,
    )

pub returns-clause-falling : goal.returns-clause-falling
returns-clause-falling g c =
    let graph = c.args.graph.now in
    let none : c.waits.link ≡ 0 = omega (arith, c.waits-test.false) in
    IsFalling-between (net_of graph) g.closing (tally_of c.waits.self) (c.args.index + 1) c.index-label.result
    (subst (λ k. IsFalling (net_of graph) g.closing (tally_of c.waits.self) (c.args.index + 1) c.index-label.result
    k) none c.waits.invariant.0.falling)
