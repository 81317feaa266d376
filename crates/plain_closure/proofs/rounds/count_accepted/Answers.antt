-- One more node that is accepted has its document counted.
use Rattle.std.proofs.Common.{◌≡◌, ◌∙◌, ◌+◌, ◌<◌, ◌≤◌, ◌∷◌, [], ℕ, List, true, length, arith, sym, ap, subst, refl}
use Rattle.std.specs.Prelude.{◌↔◌}
use Rattle.std.proofs.lemmas.Bool.{both_ways}
use Rattle.std.proofs.lemmas.List.Elements.{All-cons}
use Rattle.std.proofs.lemmas.List.Sums.{count_by-le-length}
use Rattle.closure_core.specs.Inside.Nodes.{is_raised, flags_of, count_at}
use Rattle.closure_parts.specs.NodeCounts.{AddsNodes}
use Rattle.closure_core.specs.Inside.Flags.{raised_count}
use Rattle.plain_closure.specs.Plain.{IsFirstAccepted}
use Rattle.closure_core.proofs.FlagFacts.{count-lowered}
use Rattle.closure_core.proofs.NodeFacts.{length-flags, zero-lowered}
use Rattle.closure_parts.proofs.NodeCountFacts.{flags-raised, nodes_with-few}
use Rattle.plain_closure.proofs.PlainFacts.{first-none, first-skip, first-later, first-more}
use Rattle.plain_closure.proofs.rounds.count_accepted.Goals.{then-is_accepted_node, else-is_accepted_node}
use Rattle.plain_closure.proofs.rounds.count_accepted.Goals as goal

pub loop-node-init : goal.loop-node-init
loop-node-init c =
    let low = λ (n : ℕ). zero-lowered c.args.pairs.now.counts n (c.requires.lowered n) in
    record {
      numbers = refl;
      heads = refl;
      size = refl;
      few = λ n. omega (arith, c.requires.lowered n);
      raised = λ n. (
        λ e. absurd (both_ways (is_raised (flags_of c.args.pairs.now.counts) n) (low n)
            e),
        λ f. absurd (first-none c.args.seeds c.args.released.now c.args.pairs.now.heads n
            f),
      );
      count = count-lowered (flags_of c.args.pairs.now.counts) low;
      capacity = refl;
    }

pub overflow_add-count : goal.overflow_add-count
overflow_add-count c =
    let q = c.raise-count.new.self in
    omega (
      arith,
      count_by-le-length (λ flag. flag) (flags_of q.counts),
      length-flags q.counts,
      c.raise-count.ensures.count,
      c.raise-count.ensures.adds.size,
      c.loop-node.invariant.count,
      c.loop-node.invariant.size,
      c.requires.counted,
      c.len-node-end.ensures,
      c.len-node-end.type_inv,
    )

pub loop-node-preserved : goal.loop-node-preserved
loop-node-preserved c =
    let i = c.loop-node.invariant in
    let seeds = c.args.seeds in
    let released = c.args.released.now in
    let heads = c.args.pairs.now.heads in
    let k = c.loop-node.node in
    elim c.if-is_accepted_node.branch [
      | then-is_accepted_node w ↦
          let q = w.raise-count.new.self in
          let adds : AddsNodes heads (k ∷ []) c.loop-node.pairs.counts q.counts =
          subst (λ (fs : List ℕ). AddsNodes fs (k ∷ []) c.loop-node.pairs.counts q.counts) i.heads
          (subst (λ (n : ℕ). AddsNodes c.loop-node.pairs.heads (n ∷ [])
          c.loop-node.pairs.counts q.counts) w.new.ensures w.raise-count.ensures.adds) in
          record {
            numbers = ap (λ p. p.numbers) w.pairs-is ∙ w.raise-count.ensures.numbers ∙ i.numbers;
            heads = ap (λ p. p.heads) w.pairs-is ∙ w.raise-count.ensures.heads ∙ i.heads;
            size = ap (λ p. length p.counts) w.pairs-is ∙ w.raise-count.ensures.adds.size ∙ i.size;
            few = λ n. subst (λ p. count_at p.counts n ≤ k + 1) (sym w.pairs-is)
                (omega (arith, adds.each n, i.few n, nodes_with-few heads (k ∷ []) n));
            raised = λ n. subst (λ p. (is_raised (flags_of p.counts) n ≡ true) ↔ IsFirstAccepted seeds
                released heads (k + 1) n) (sym w.pairs-is)
                (first-more seeds released heads k (k ∷ []) refl
                (c.is_accepted_node.ensures.0 w.if-is_accepted_node.true) (flags_of c.loop-node.pairs.counts)
                (flags_of q.counts)
                (flags-raised heads (k ∷ []) c.loop-node.pairs.counts q.counts
                (All-cons (λ n. n < length heads) k []
                (omega (arith, c.loop-node-test.true, c.len-node-end.ensures))
                (λ j d l. absurd (omega (arith, l)))) adds)
                i.raised n);
            count = omega (
              arith,
              ap (λ p. raised_count (flags_of p.counts)) w.pairs-is,
              w.raise-count.ensures.count,
              i.count,
              w.count-is,
            );
            capacity = ap (λ p. p.capacity) w.pairs-is ∙ w.raise-count.ensures.capacity ∙ i.capacity;
          }
      | else-is_accepted_node w ↦
          record {
            numbers = ap (λ p. p.numbers) w.pairs-is ∙ i.numbers;
            heads = ap (λ p. p.heads) w.pairs-is ∙ i.heads;
            size = ap (λ p. length p.counts) w.pairs-is ∙ i.size;
            few = λ n. subst (λ p. count_at p.counts n ≤ k + 1) (sym w.pairs-is)
                (omega (arith, i.few n));
            raised = λ n. subst (λ p. (is_raised (flags_of p.counts) n ≡ true) ↔ IsFirstAccepted seeds
                released heads (k + 1) n) (sym w.pairs-is) (
                  λ e. first-later seeds released heads k n ((i.raised n).0 e),
                  λ f. (i.raised n).1
                      (first-skip seeds released heads k
                      (λ had. both_ways c.is_accepted_node.result w.if-is_accepted_node.false
                      (c.is_accepted_node.ensures.1 had)) n f),
                );
            count = omega (
              arith,
              ap (λ p. raised_count (flags_of p.counts)) w.pairs-is,
              i.count,
              w.count-is,
            );
            capacity = ap (λ p. p.capacity) w.pairs-is ∙ i.capacity;
          }
    ]
