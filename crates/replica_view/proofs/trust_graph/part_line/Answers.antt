use Rattle.std.proofs.Common.{IfOk, subst, sym}
use Rattle.replica_view.specs.Inside.GraphParts.{ShowsPart}
use Rattle.replica_view.proofs.trust_graph.part_line.Goals as goal

pub returns-in-Edge : goal.returns-in-Edge
returns-in-Edge g c =
    subst (λ part. IfOk c.edge_of.result (ShowsPart part (g.C.Closure.state c.args.closure.now).meaning c.args.receipt.now)) (sym c.in-Edge.is)
    c.edge_of.ensures
