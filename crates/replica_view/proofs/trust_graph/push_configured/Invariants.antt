use Rattle.std.proofs.Common.{drop, option_copied}
use Rattle.replica_view.specs.TrustGraph.{IsPassedSeed, ShowsConfigured}
use Rattle.replica_view.proofs.MadeLineFacts.{LinesSoFar}
use Rattle.replica_view.proofs.trust_graph.push_configured.Given as goal

abbrev pub invariant-loop-seed : goal.invariant-loop-seed
invariant-loop-seed g l = LinesSoFar (IsPassedSeed (g.C.Closure.state l.closure).meaning (option_copied l.chosen)) ShowsConfigured
    l.seed-items (drop l.seed-index l.seed-items) l.initial.lines.items l.lines.items
