use Rattle.std.proofs.Common.{ap, ◌∙◌}
use Rattle.wait_index.specs.Index.{Index}
use Rattle.wait_index.specs.Net.{visits_of}
use Rattle.wait_index.specs.Inside.Tally.{net_of, tally_of}
use Rattle.wait_index.proofs.ShownFacts.{visits-shown}
use Rattle.wait_index.proofs.reach.Reach.visits.Goals as goal

pub returns : goal.returns
returns c =
    let r = c.self.inside in
    visits-shown (net_of r.graph) (tally_of r.marks) c.self.invariant.settled r.marks.touched.listed r.graph.shaped.labels
    ∙ ap (λ (x : Index). visits_of x.net x.marked) c.self.view_is
