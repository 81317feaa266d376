use Rattle.std.proofs.Common.{◌≡◌, ◌+◌, ◌-◌, ◌<◌, length, get_or, refl, sym, subst, ◌∙◌, arith}
use Rattle.wait_index.specs.Edge.{to_at}
use Rattle.wait_index.specs.Inside.Tally.{net_of, tally_of, Withdraws}
use Rattle.wait_index.proofs.LinkFacts.{first_link, next_link, read_to}
use Rattle.wait_index.proofs.WithdrawalFacts.{WithdrawsFrom-start, WithdrawsFrom-step, WithdrawsFrom-some}
use Rattle.wait_index.proofs.marks.Marks.withdraw_offers.Goals as goal

pub offers-init : goal.offers-init
offers-init c =
    let g = c.args.graph.now in
    let within : c.args.node < length g.offers.newest.items = omega (arith, c.requires.node, g.shaped.nodes_listed) in
    let first = first_link g.offers.edges.items g.offers.newest.items g.offers.earlier.items c.args.node
    c.index-link.result.now g.offers.linked within c.index-link.ensures in
    (WithdrawsFrom-start (net_of g) c.args.node c.index-link.result.now (tally_of c.args.self.now) c.requires.can first, refl)

pub withdraw-requires : goal.withdraw-requires
withdraw-requires c =
    let g = c.args.graph.now in
    let h = c.offers.invariant.0 in
    let edge = c.offers.link - 1 in
    let at : c.offers.link ≡ edge + 1 = omega (arith, c.offers-test.true) in
    let within : edge < length g.offers.edges.items = omega (arith, h.at.within, at) in
    let to = read_to g.offers.edges.items edge c.index.result.now within c.index.ensures in
    let label = g.shaped.labels edge within in
    let some = WithdrawsFrom-some (net_of g) c.args.node edge c.offers.link (tally_of c.args.self.now) (tally_of c.offers.self) h at label in
    record {
      visits = some.0;
      support = subst (λ n. 0 < get_or c.offers.self.support.items n 0) (sym to) some.1;
      label = omega (arith, to, label, h.sizes.support);
      opened = omega (arith, h.sizes.support, h.sizes.opened);
      touched = omega (arith, h.sizes.support, h.sizes.touched);
    }

pub offers-smaller : goal.offers-smaller
offers-smaller c =
    let g = c.args.graph.now in
    let at : c.offers.link ≡ (c.offers.link - 1) + 1 = omega (arith, c.offers-test.true) in
    let last = next_link g.offers.edges.items g.offers.newest.items g.offers.earlier.items c.args.node
    (c.offers.link - 1) c.offers.link c.index-link-in-offers.result.now g.offers.linked c.offers.invariant.0.at at
    c.index-link-in-offers.ensures in
    omega (arith, at, last.below)

pub offers-preserved : goal.offers-preserved
offers-preserved c =
    let g = c.args.graph.now in
    let h = c.offers.invariant.0 in
    let edge = c.offers.link - 1 in
    let at : c.offers.link ≡ edge + 1 = omega (arith, c.offers-test.true) in
    let within : edge < length g.offers.edges.items = omega (arith, h.at.within, at) in
    let last = next_link g.offers.edges.items g.offers.newest.items g.offers.earlier.items c.args.node edge
    c.offers.link c.index-link-in-offers.result.now g.offers.linked h.at at c.index-link-in-offers.ensures in
    let withdraws : Withdraws (to_at g.offers.edges.items edge) (tally_of c.offers.self) (tally_of c.withdraw.new.self) =
    subst (λ n. Withdraws n (tally_of c.offers.self) (tally_of c.withdraw.new.self))
    (read_to g.offers.edges.items edge c.index.result.now within c.index.ensures) c.withdraw.ensures.withdrawn
    in (
      WithdrawsFrom-step (net_of g) c.args.node edge c.offers.link c.index-link-in-offers.result.now
          (tally_of c.args.self.now) (tally_of c.offers.self) (tally_of c.withdraw.new.self) h at
          (g.shaped.labels edge within) last withdraws,
      c.withdraw.ensures.capacity ∙ c.offers.invariant.1,
    )
