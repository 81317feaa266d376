use Rattle.std.proofs.Common.{sym, subst}
use Rattle.wait_index.specs.Index.{Index}
use Rattle.wait_index.specs.Net.{ListsReached}
use Rattle.wait_index.specs.Inside.Tally.{net_of, tally_of}
use Rattle.wait_index.proofs.ShownFacts.{lists-reached}
use Rattle.wait_index.proofs.reach.Reach.marked.Goals as goal

pub returns-clause-reached : goal.returns-clause-reached
returns-clause-reached c =
    let r = c.self.inside in
    let lists = lists-reached (net_of r.graph) (tally_of r.marks) c.self.invariant.settled r.marks.touched.listed r.graph.shaped.labels in
    subst (λ (x : Index). ListsReached x.net c.deref.result.now) c.self.view_is
    (subst (λ nodes. ListsReached (net_of r.graph) nodes) (sym c.deref.ensures.value) lists)
