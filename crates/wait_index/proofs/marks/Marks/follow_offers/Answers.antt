use Rattle.std.proofs.Common.{◌≡◌, ◌+◌, ◌-◌, ◌<◌, length, get_or, refl, subst, ◌∙◌, arith}
use Rattle.std.proofs.lemmas.List.{get_or_read}
use Rattle.wait_index.specs.Edge.{to_at}
use Rattle.wait_index.specs.Inside.Tally.{net_of, tally_of, Supports}
use Rattle.wait_index.proofs.LinkFacts.{first_link, next_link, read_to}
use Rattle.wait_index.proofs.FollowFacts.{OffersFrom-start, OffersFrom-step, OffersFrom-support, Follows-visits}
use Rattle.wait_index.proofs.marks.Marks.follow_offers.Goals as goal

pub offers-init : goal.offers-init
offers-init c =
    let g = c.args.graph.now in
    let m = c.args.self.now.marked in
    let node : c.index-node.result ≡ get_or m.items.items c.args.cursor 0 =
    c.index-node.ensures ∙ get_or_read m.items.items c.args.cursor c.index.result.now c.requires.cursor
    c.index.ensures 0 in
    let there = m.listed.within c.args.cursor c.requires.cursor in
    let within : c.index-node.result < length g.offers.newest.items =
    omega (arith, node, there, c.requires.follows.steady.sizes.places, g.shaped.nodes_listed) in
    let first = first_link g.offers.edges.items g.offers.newest.items g.offers.earlier.items c.index-node.result
    c.index-link.result.now g.offers.linked within c.index-link.ensures in (
      OffersFrom-start (net_of g) c.args.cursor c.index-node.result c.index-link.result.now (tally_of c.args.self.now)
          c.requires.follows c.requires.cursor node first,
      refl,
    )

pub follow_offer-requires-clause-visits : goal.follow_offer-requires-clause-visits
follow_offer-requires-clause-visits c =
    omega (
      arith,
      c.requires.few,
      Follows-visits (net_of c.args.graph.now) (c.args.cursor + 1) c.index-node.result
          c.offers.link (tally_of c.offers.self) c.offers.invariant.0.follows,
    )

pub follow_offer-requires-clause-support : goal.follow_offer-requires-clause-support
follow_offer-requires-clause-support c =
    let g = c.args.graph.now in
    let h = c.offers.invariant.0 in
    let edge = c.offers.link - 1 in
    let at : c.offers.link ≡ edge + 1 = omega (arith, c.offers-test.true) in
    let within : edge < length g.offers.edges.items = omega (arith, h.at.within, at) in
    let to = read_to g.offers.edges.items edge c.index-in-offers.result.now within c.index-in-offers.ensures in
    let label : c.index-in-offers.result.now.to < length g.closed.items = omega (arith, to, g.shaped.labels edge within) in
    omega (
      arith,
      c.requires.few,
      OffersFrom-support (net_of g) c.args.cursor c.index-node.result edge c.offers.link (tally_of c.args.self.now)
          (tally_of c.offers.self) h at c.index-in-offers.result.now.to to label,
    )

pub offers-smaller : goal.offers-smaller
offers-smaller c =
    let g = c.args.graph.now in
    let at : c.offers.link ≡ (c.offers.link - 1) + 1 = omega (arith, c.offers-test.true) in
    let last = next_link g.offers.edges.items g.offers.newest.items g.offers.earlier.items c.index-node.result
    (c.offers.link - 1) c.offers.link c.index-link-in-offers.result.now g.offers.linked c.offers.invariant.0.at at
    c.index-link-in-offers.ensures in
    omega (arith, at, last.below)

pub offers-preserved : goal.offers-preserved
offers-preserved c =
    let g = c.args.graph.now in
    let h = c.offers.invariant.0 in
    let edge = c.offers.link - 1 in
    let at : c.offers.link ≡ edge + 1 = omega (arith, c.offers-test.true) in
    let within : edge < length g.offers.edges.items = omega (arith, h.at.within, at) in
    let last = next_link g.offers.edges.items g.offers.newest.items g.offers.earlier.items c.index-node.result edge
    c.offers.link c.index-link-in-offers.result.now g.offers.linked h.at at c.index-link-in-offers.ensures in
    let supports : Supports (net_of g) (to_at g.offers.edges.items edge) (tally_of c.offers.self) (tally_of c.follow_offer.new.self) =
    subst (λ n. Supports (net_of g) n (tally_of c.offers.self) (tally_of c.follow_offer.new.self))
    (read_to g.offers.edges.items edge c.index-in-offers.result.now within c.index-in-offers.ensures)
    c.follow_offer.ensures.supported
    in (
      OffersFrom-step (net_of g) c.args.cursor c.index-node.result edge c.offers.link c.index-link-in-offers.result.now
          (tally_of c.args.self.now) (tally_of c.offers.self) (tally_of c.follow_offer.new.self) h at
          (g.shaped.labels edge within) last c.follow_offer.new.self.marked.listed supports,
      c.follow_offer.ensures.capacity ∙ c.offers.invariant.1,
    )
