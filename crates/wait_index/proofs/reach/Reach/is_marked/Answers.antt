use Rattle.std.proofs.Common.{◌≡◌, ap, ◌∙◌, sym, subst}
use Rattle.std.specs.Prelude.{Contains}
use Rattle.wait_index.specs.Index.{Index}
use Rattle.wait_index.specs.Net.{IsReached}
use Rattle.wait_index.specs.Inside.Tally.{net_of, tally_of, is_marked_in}
use Rattle.wait_index.proofs.CloseFacts.{marked-from_reached}
use Rattle.wait_index.proofs.ListingFacts.{contains-from_holds, holds-from_contains}
use Rattle.wait_index.proofs.reach.Reach.is_marked.Goals as goal

pub returns-clause-reached : goal.returns-clause-reached
returns-clause-reached c =
    let r = c.self.inside in
    let k = c.self.invariant.settled in
    let held : c.holds.result ≡ is_marked_in (tally_of r.marks) c.args.node = c.holds.ensures ∙ ap (is_marked_in (tally_of r.marks)) c.index.ensures in (
      λ e. subst (λ (x : Index). IsReached x.net c.args.node) c.self.view_is (k.follows.steady.sound c.args.node (sym held ∙ e)),
      λ e. held ∙ marked-from_reached (net_of r.graph) (tally_of r.marks) k r.marks.touched.listed r.graph.shaped.labels
          c.args.node (subst (λ (x : Index). IsReached x.net c.args.node) (sym c.self.view_is) e),
    )

pub returns-clause-listed : goal.returns-clause-listed
returns-clause-listed c =
    let r = c.self.inside in
    let s = r.marks.marked in
    let held : c.holds.result ≡ is_marked_in (tally_of r.marks) c.args.node = c.holds.ensures ∙ ap (is_marked_in (tally_of r.marks)) c.index.ensures in (
      λ e. subst (λ (x : Index). Contains x.marked c.args.node) c.self.view_is
          (contains-from_holds s.items.items s.places.items s.listed c.args.node (sym held ∙ e)),
      λ e. held ∙ holds-from_contains s.items.items s.places.items s.listed c.args.node
          (subst (λ (x : Index). Contains x.marked c.args.node) (sym c.self.view_is) e),
    )
