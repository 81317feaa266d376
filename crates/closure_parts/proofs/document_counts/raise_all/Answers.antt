-- One more node is counted.
use Rattle.std.proofs.Common.{◌≡◌, ◌∙◌, ◌+◌, ℕ, sym, ap, get_or, take, arith, subst}
use Rattle.std.proofs.lemmas.List.{get_or_default}
use Rattle.closure_parts.specs.NodeCounts.{AddsNodes, first_of_node}
use Rattle.closure_parts.proofs.NodeCountFacts.{AddsNodes-more, nodes_with-short}
use Rattle.closure_parts.proofs.document_counts.raise_all.Goals as goal

pub raise-count-requires-clause-few : goal.raise-count-requires-clause-few
raise-count-requires-clause-few c =
    let k = c.loop-node.node-index in
    let number : ℕ = get_or c.args.heads.now c.index.result 0 in
    omega (
      arith,
      c.loop-node.invariant.adds.each number,
      nodes_with-short c.args.heads.now
          c.args.nodes.now k number,
      c.requires.few number,
    )

pub loop-node-preserved : goal.loop-node-preserved
loop-node-preserved c =
    let k = c.loop-node.node-index in
    let node = c.index.result in
    let number : ℕ = get_or c.args.heads.now node 0 in
    let at : get_or c.args.nodes.now k 0 ≡ node = get_or_default c.args.nodes.now k 0
    c.node-item.result (omega arith) ∙ sym c.node-item.is ∙ sym c.index.ensures in
    let small = c.requires.nodes k 0 (omega arith) in
    let in' = c.requires.heads node 0 (omega (arith, at, small)) in
    record {
      adds = subst (AddsNodes c.args.heads.now (take (k + 1) c.args.nodes.now) c.args.counts.now)
          (sym c.raise-count.ensures.counts)
          (AddsNodes-more c.args.heads.now c.args.nodes.now c.args.counts.now c.loop-node.counts k
          number (omega arith) (ap (first_of_node c.args.heads.now) at)
          (omega (arith, in', c.loop-node.invariant.adds.size)) c.loop-node.invariant.adds);
      count = omega (arith, c.raise-count.ensures.count, c.loop-node.invariant.count);
    }
