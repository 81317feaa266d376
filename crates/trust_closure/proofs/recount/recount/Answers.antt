-- What fell is no longer counted, and what was marked again is.
use Rattle.std.proofs.Common.{◌≡◌, ◌∙◌, ◌<◌, ◌≤◌, ℕ, List, length, take, drop, arith, sym, ap, subst}
use Rattle.std.specs.Prelude.{AllPairs, ◌≢◌}
use Rattle.std.specs.List.{All}
use Rattle.closure_core.specs.Inside.Nodes.{flags_of, count_at}
use Rattle.closure_parts.specs.NodeCounts.{nodes_with, AddsNodes, AreCounts}
use Rattle.closure_core.proofs.FlagFacts.{count-fewer}
use Rattle.closure_core.proofs.NodeFacts.{length-flags}
use Rattle.closure_parts.proofs.NodeCountFacts.{flags-kept, nodes_with-few}
use Rattle.trust_closure.proofs.RecountFacts.{nodes-before, nodes-now, nodes-again, kept-within, fallen-within, again-within, marked-few}
use Rattle.trust_closure.proofs.recount.recount.Goals as goal

pub lower-fell-requires-clause-nodes : goal.lower-fell-requires-clause-nodes
lower-fell-requires-clause-nodes c =
    let b = c.requires.before in
    let last = c.args.reach.now.last in
    let marked : c.marked-marked.result.now ≡ c.args.reach.now.marked =
    c.marked-marked.ensures.nodes in
    let once = subst (λ (ns : List ℕ). AllPairs ◌≢◌ ns) marked
    c.marked-marked.ensures.reached.once in
    subst (All (λ n. n < length c.args.pairs.now.heads)) (sym c.fallen.ensures)
    (fallen-within b.net b.marked b.closing last.fallen last.kept c.args.reach.now.marked
    b.reached b.fell once (λ n. n < length c.args.pairs.now.heads) b.within)

pub lower-fell-requires-clause-counted : goal.lower-fell-requires-clause-counted
lower-fell-requires-clause-counted c =
    let b = c.requires.before in
    let last = c.args.reach.now.last in
    let marked : c.marked-marked.result.now ≡ c.args.reach.now.marked =
    c.marked-marked.ensures.nodes in
    let once = subst (λ (ns : List ℕ). AllPairs ◌≢◌ ns) marked
    c.marked-marked.ensures.reached.once in
    λ n. subst (λ (ns : List ℕ). nodes_with c.args.pairs.now.heads ns n ≤ count_at
    c.args.pairs.now.counts n) (sym c.fallen.ensures)
    (omega (
      arith,
      b.counts n,
      nodes-before b.net b.marked b.closing last.fallen last.kept
          c.args.reach.now.marked b.reached b.fell once c.args.pairs.now.heads n,
    ))

pub nodes_after-again-requires : goal.nodes_after-again-requires
nodes_after-again-requires c =
    let b = c.requires.before in
    let last = c.args.reach.now.last in
    let marked : c.marked-marked.result.now ≡ c.args.reach.now.marked =
    c.marked-marked.ensures.nodes in
    let once = subst (λ (ns : List ℕ). AllPairs ◌≢◌ ns) marked
    c.marked-marked.ensures.reached.once in
    omega (
      arith,
      c.kept.ensures,
      ap length marked,
      kept-within b.net b.marked b.closing last.fallen
          last.kept c.args.reach.now.marked b.reached b.fell once b.many,
    )

pub raise-back-requires-clause-nodes : goal.raise-back-requires-clause-nodes
raise-back-requires-clause-nodes c =
    let b = c.requires.before in
    let last = c.args.reach.now.last in
    let marked : c.marked-marked.result.now ≡ c.args.reach.now.marked =
    c.marked-marked.ensures.nodes in
    let once = subst (λ (ns : List ℕ). AllPairs ◌≢◌ ns) marked
    c.marked-marked.ensures.reached.once in
    let nodes : c.nodes_after-again.result.now ≡ drop last.kept c.args.reach.now.marked =
    c.nodes_after-again.ensures ∙ ap (λ n. drop n c.marked-marked.result.now) c.kept.ensures
    ∙ ap (drop last.kept) marked in
    subst (All (λ n. n < length c.lower-fell.new.self.heads)) (sym nodes)
    (subst (λ (fs : List ℕ). All (λ n. n < length fs) (drop last.kept c.args.reach.now.marked))
    (sym c.lower-fell.ensures.heads)
    (again-within b.net b.marked b.closing last.fallen last.kept c.args.reach.now.marked b.reached
    b.fell once (λ n. n < length c.args.pairs.now.heads) b.within))

pub raise-back-requires-clause-few : goal.raise-back-requires-clause-few
raise-back-requires-clause-few c =
    let b = c.requires.before in
    let last = c.args.reach.now.last in
    let marked : c.marked-marked.result.now ≡ c.args.reach.now.marked =
    c.marked-marked.ensures.nodes in
    let once = subst (λ (ns : List ℕ). AllPairs ◌≢◌ ns) marked
    c.marked-marked.ensures.reached.once in
    let nodes : c.nodes_after-again.result.now ≡ drop last.kept c.args.reach.now.marked =
    c.nodes_after-again.ensures ∙ ap (λ n. drop n c.marked-marked.result.now) c.kept.ensures
    ∙ ap (drop last.kept) marked in
    let takes : AddsNodes c.args.pairs.now.heads last.fallen c.lower-fell.new.self.counts
    c.args.pairs.now.counts =
    subst (λ (ns : List ℕ). AddsNodes c.args.pairs.now.heads ns c.lower-fell.new.self.counts
    c.args.pairs.now.counts) c.fallen.ensures c.lower-fell.ensures.takes in
    λ n. omega (
      arith,
      ap length nodes,
      takes.each n,
      b.counts n,
      nodes-before b.net b.marked b.closing last.fallen last.kept c.args.reach.now.marked b.reached
          b.fell once c.args.pairs.now.heads n,
      nodes_with-few c.args.pairs.now.heads (take last.kept c.args.reach.now.marked) n,
      marked-few b.net b.marked b.closing last.fallen last.kept c.args.reach.now.marked b.reached
          b.fell once (length c.args.pairs.now.heads) b.within,
      c.requires.few,
    )

pub overflow_sub-result : goal.overflow_sub-result
overflow_sub-result c =
    let b = c.requires.before in
    let last = c.args.reach.now.last in
    let marked : c.marked-marked.result.now ≡ c.args.reach.now.marked =
    c.marked-marked.ensures.nodes in
    let once = subst (λ (ns : List ℕ). AllPairs ◌≢◌ ns) marked
    c.marked-marked.ensures.reached.once in
    let nodes : c.nodes_after-again.result.now ≡ drop last.kept c.args.reach.now.marked =
    c.nodes_after-again.ensures ∙ ap (λ n. drop n c.marked-marked.result.now) c.kept.ensures
    ∙ ap (drop last.kept) marked in
    let takes : AddsNodes c.args.pairs.now.heads last.fallen c.lower-fell.new.self.counts
    c.args.pairs.now.counts =
    subst (λ (ns : List ℕ). AddsNodes c.args.pairs.now.heads ns c.lower-fell.new.self.counts
    c.args.pairs.now.counts) c.fallen.ensures c.lower-fell.ensures.takes in
    let adds : AddsNodes c.args.pairs.now.heads (drop last.kept c.args.reach.now.marked)
    c.lower-fell.new.self.counts c.raise-back.new.self.counts =
    subst (λ (fs : List ℕ). AddsNodes fs (drop last.kept c.args.reach.now.marked)
    c.lower-fell.new.self.counts c.raise-back.new.self.counts) c.lower-fell.ensures.heads
    (subst (λ (ns : List ℕ). AddsNodes c.lower-fell.new.self.heads ns c.lower-fell.new.self.counts
    c.raise-back.new.self.counts) nodes c.raise-back.ensures.adds) in
    let kept = flags-kept c.raise-back.new.self.counts c.args.pairs.now.counts
    (λ n. omega (
      arith,
      adds.each n,
      takes.each n,
      nodes-again b.net b.marked b.closing
          last.fallen last.kept c.args.reach.now.marked b.reached b.fell once c.args.pairs.now.heads
          n,
    )) in
    let less = count-fewer (flags_of c.raise-back.new.self.counts)
    (flags_of c.args.pairs.now.counts)
    (omega (
      arith,
      adds.size,
      takes.size,
      length-flags c.raise-back.new.self.counts,
      length-flags
          c.args.pairs.now.counts,
    )) kept in
    omega (arith, less, c.lower-fell.ensures.count, c.raise-back.ensures.count)

pub returns-clause-counts : goal.returns-clause-counts
returns-clause-counts c =
    let b = c.requires.before in
    let last = c.args.reach.now.last in
    let marked : c.marked-marked.result.now ≡ c.args.reach.now.marked =
    c.marked-marked.ensures.nodes in
    let once = subst (λ (ns : List ℕ). AllPairs ◌≢◌ ns) marked
    c.marked-marked.ensures.reached.once in
    let nodes : c.nodes_after-again.result.now ≡ drop last.kept c.args.reach.now.marked =
    c.nodes_after-again.ensures ∙ ap (λ n. drop n c.marked-marked.result.now) c.kept.ensures
    ∙ ap (drop last.kept) marked in
    let takes : AddsNodes c.args.pairs.now.heads last.fallen c.lower-fell.new.self.counts
    c.args.pairs.now.counts =
    subst (λ (ns : List ℕ). AddsNodes c.args.pairs.now.heads ns c.lower-fell.new.self.counts
    c.args.pairs.now.counts) c.fallen.ensures c.lower-fell.ensures.takes in
    let adds : AddsNodes c.args.pairs.now.heads (drop last.kept c.args.reach.now.marked)
    c.lower-fell.new.self.counts c.raise-back.new.self.counts =
    subst (λ (fs : List ℕ). AddsNodes fs (drop last.kept c.args.reach.now.marked)
    c.lower-fell.new.self.counts c.raise-back.new.self.counts) c.lower-fell.ensures.heads
    (subst (λ (ns : List ℕ). AddsNodes c.lower-fell.new.self.heads ns c.lower-fell.new.self.counts
    c.raise-back.new.self.counts) nodes c.raise-back.ensures.adds) in
    subst (λ (fs : List ℕ). AreCounts fs c.args.reach.now.marked c.raise-back.new.self.counts)
    (sym (c.raise-back.ensures.heads ∙ c.lower-fell.ensures.heads))
    (λ n. omega (
      arith,
      adds.each n,
      takes.each n,
      b.counts n,
      nodes-before b.net b.marked b.closing
          last.fallen last.kept c.args.reach.now.marked b.reached b.fell once c.args.pairs.now.heads
          n,
      nodes-now b.net b.marked b.closing last.fallen last.kept c.args.reach.now.marked
          b.reached b.fell once c.args.pairs.now.heads n,
    ))

pub returns-clause-count : goal.returns-clause-count
returns-clause-count c =
    let b = c.requires.before in
    let last = c.args.reach.now.last in
    let marked : c.marked-marked.result.now ≡ c.args.reach.now.marked =
    c.marked-marked.ensures.nodes in
    let once = subst (λ (ns : List ℕ). AllPairs ◌≢◌ ns) marked
    c.marked-marked.ensures.reached.once in
    let nodes : c.nodes_after-again.result.now ≡ drop last.kept c.args.reach.now.marked =
    c.nodes_after-again.ensures ∙ ap (λ n. drop n c.marked-marked.result.now) c.kept.ensures
    ∙ ap (drop last.kept) marked in
    let takes : AddsNodes c.args.pairs.now.heads last.fallen c.lower-fell.new.self.counts
    c.args.pairs.now.counts =
    subst (λ (ns : List ℕ). AddsNodes c.args.pairs.now.heads ns c.lower-fell.new.self.counts
    c.args.pairs.now.counts) c.fallen.ensures c.lower-fell.ensures.takes in
    let adds : AddsNodes c.args.pairs.now.heads (drop last.kept c.args.reach.now.marked)
    c.lower-fell.new.self.counts c.raise-back.new.self.counts =
    subst (λ (fs : List ℕ). AddsNodes fs (drop last.kept c.args.reach.now.marked)
    c.lower-fell.new.self.counts c.raise-back.new.self.counts) c.lower-fell.ensures.heads
    (subst (λ (ns : List ℕ). AddsNodes c.lower-fell.new.self.heads ns c.lower-fell.new.self.counts
    c.raise-back.new.self.counts) nodes c.raise-back.ensures.adds) in
    let kept = flags-kept c.raise-back.new.self.counts c.args.pairs.now.counts
    (λ n. omega (
      arith,
      adds.each n,
      takes.each n,
      nodes-again b.net b.marked b.closing
          last.fallen last.kept c.args.reach.now.marked b.reached b.fell once c.args.pairs.now.heads
          n,
    )) in
    let less = count-fewer (flags_of c.raise-back.new.self.counts)
    (flags_of c.args.pairs.now.counts)
    (omega (
      arith,
      adds.size,
      takes.size,
      length-flags c.raise-back.new.self.counts,
      length-flags
          c.args.pairs.now.counts,
    )) kept in
    omega (arith, less, c.lower-fell.ensures.count, c.raise-back.ensures.count)
