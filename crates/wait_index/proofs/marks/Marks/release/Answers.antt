use Rattle.std.proofs.Common.{◌≡◌, ◌+◌, ◌-◌, ◌<◌, length, refl, subst, ◌∙◌, arith}
use Rattle.wait_index.specs.Edge.{to_at}
use Rattle.wait_index.specs.Inside.Tally.{Tally, net_of, tally_of, MarksNode}
use Rattle.wait_index.proofs.LinkFacts.{first_link, next_link, read_to}
use Rattle.wait_index.proofs.ReleaseFacts.{ReleasesFrom-start, ReleasesFrom-step, ReleasesFrom-fits}
use Rattle.wait_index.proofs.marks.Marks.release.Goals as goal

pub waits-init : goal.waits-init
waits-init c =
    let g = c.args.graph.now in
    let first = first_link g.waits.edges.items g.waits.newest.items g.waits.earlier.items c.args.label
    c.index-link.result.now g.waits.linked (omega (arith, g.shaped.labels_listed, c.requires.label))
    c.index-link.ensures in
    (ReleasesFrom-start (net_of g) c.args.label c.index-link.result.now (tally_of c.args.self.now) c.requires.sizes first, refl)

pub overflow_add-self : goal.overflow_add-self
overflow_add-self c =
    let g = c.args.graph.now in
    let at : c.waits.link ≡ (c.waits.link - 1) + 1 = omega (arith, c.waits-test.true) in
    omega (
      arith,
      c.requires.visits,
      ReleasesFrom-fits (net_of g) c.args.label (c.waits.link - 1) c.waits.link
          (tally_of c.args.self.now) (tally_of c.waits.self) c.waits.invariant.0 at,
    )

pub waits-preserved : goal.waits-preserved
waits-preserved c =
    let g = c.args.graph.now in
    let h = c.waits.invariant.0 in
    let edge = c.waits.link - 1 in
    let at : c.waits.link ≡ edge + 1 = omega (arith, c.waits-test.true) in
    let within : edge < length g.waits.edges.items = omega (arith, h.at.within) in
    let last = next_link g.waits.edges.items g.waits.newest.items g.waits.earlier.items c.args.label edge c.waits.link
    c.index-link-in-waits.result.now g.waits.linked h.at at c.index-link-in-waits.ensures in
    let then : Tally = record (tally_of c.waits.self) { visits = c.waits.self.visits + 1 } in
    let marks : MarksNode (to_at g.waits.edges.items edge) then (tally_of c.mark.new.self) =
    subst (λ n. MarksNode n then (tally_of c.mark.new.self)) (read_to g.waits.edges.items edge c.index.result.now within c.index.ensures) c.mark.ensures.marked
    in (
      ReleasesFrom-step (net_of g) c.args.label edge c.waits.link c.index-link-in-waits.result.now
          (tally_of c.args.self.now) (tally_of c.waits.self) then (tally_of c.mark.new.self) h at refl last marks,
      c.mark.ensures.capacity ∙ c.waits.invariant.1,
    )
