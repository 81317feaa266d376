use Rattle.std.proofs.Common.{option_copied}
use Rattle.replica_view.proofs.GraphFacts.{graph_made}
use Rattle.replica_view.proofs.trust_graph.graph_lines_of.Goals as goal

pub returns : goal.returns
returns g c =
    graph_made (g.C.Closure.state c.args.closure.now).meaning (option_copied c.args.chosen) _ _ _ _ _ _
    c.new-lines.ensures.items c.in_ok-push_part.ensures c.in_ok-push_brought.ensures c.in_ok-push_configured.ensures
    c.in_ok-push_currents.ensures c.in_ok-push_part-2.ensures
