use Rattle.std.proofs.Common.{drop, option_copied}
use Rattle.replica_view.specs.TrustGraph.{IsPassedDomain, ShowsCurrent}
use Rattle.replica_view.proofs.MadeLineFacts.{LinesSoFar}
use Rattle.replica_view.proofs.trust_graph.push_currents.Given as goal

abbrev pub invariant-loop-domain : goal.invariant-loop-domain
invariant-loop-domain g l =
    let m = (g.C.Closure.state l.closure).meaning in
    LinesSoFar (IsPassedDomain m (option_copied l.chosen)) (ShowsCurrent m)
    l.domain-items (drop l.domain-index l.domain-items) l.initial.lines.items l.lines.items
