-- One more node is no longer counted.
use Rattle.std.proofs.Common.{◌≡◌, ◌∙◌, ◌+◌, ℕ, List, sym, ap, get_or, take, arith, subst}
use Rattle.std.proofs.lemmas.List.{get_or_default}
use Rattle.closure_parts.specs.NodeCounts.{AddsNodes, first_of_node}
use Rattle.closure_parts.proofs.NodeCountFacts.{AddsNodes-fewer, next-counted}
use Rattle.closure_parts.proofs.document_counts.lower_all.Goals as goal

pub lower-count-requires-clause-counted : goal.lower-count-requires-clause-counted
lower-count-requires-clause-counted c =
    let k = c.loop-node.node-index in
    let node = c.index.result in
    let number : ℕ = get_or c.args.heads.now node 0 in
    let at : get_or c.args.nodes.now k 0 ≡ node = get_or_default c.args.nodes.now k 0
    c.node-item.result (omega arith) ∙ sym c.node-item.is ∙ sym c.index.ensures in
    next-counted c.args.heads.now c.args.nodes.now c.args.counts.now c.loop-node.counts k number
    (omega arith) (ap (first_of_node c.args.heads.now) at) (c.requires.counted number)
    c.loop-node.invariant.takes

pub loop-node-preserved : goal.loop-node-preserved
loop-node-preserved c =
    let k = c.loop-node.node-index in
    let node = c.index.result in
    let number : ℕ = get_or c.args.heads.now node 0 in
    let at : get_or c.args.nodes.now k 0 ≡ node = get_or_default c.args.nodes.now k 0
    c.node-item.result (omega arith) ∙ sym c.node-item.is ∙ sym c.index.ensures in
    let first = ap (first_of_node c.args.heads.now) at in
    let small = c.requires.nodes k 0 (omega arith) in
    let in' = c.requires.heads node 0 (omega (arith, at, small)) in
    let some = next-counted c.args.heads.now c.args.nodes.now c.args.counts.now c.loop-node.counts
    k number (omega arith) first (c.requires.counted number) c.loop-node.invariant.takes in
    record {
      takes = subst (λ (ks : List ℕ). AddsNodes c.args.heads.now (take (k + 1) c.args.nodes.now) ks
          c.args.counts.now) (sym c.lower-count.ensures.counts)
          (AddsNodes-fewer c.args.heads.now c.args.nodes.now c.args.counts.now c.loop-node.counts k
          number (omega arith) first
          (omega (arith, in', c.loop-node.invariant.takes.size)) some c.loop-node.invariant.takes);
      count = omega (arith, c.lower-count.ensures.count, c.loop-node.invariant.count);
    }
