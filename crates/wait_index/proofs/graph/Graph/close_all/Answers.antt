use Rattle.std.proofs.Common.{length, take, ap, arith}
use Rattle.wait_index.specs.Net.{Net}
use Rattle.wait_index.proofs.NetLawFacts.{length-all_set}
use Rattle.wait_index.proofs.graph.Graph.close_all.Goals as goal

pub close-requires : goal.close-requires
close-requires c =
    let labels = c.args.labels.now in
    let i = c.loop-label.label-index in
    let size = ap (λ (n : Net). length n.closed) c.loop-label.invariant.0 in
    omega (
      arith,
      size,
      length-all_set (take i labels) c.args.self.now.closed.items,
      c.index.ensures,
      c.label-item.is,
      c.requires i c.label-item.result c.loop-label-test.true,
    )
