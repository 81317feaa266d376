-- What is marked from now on is counted from now on.
use Rattle.std.proofs.Common.{◌≡◌, ◌++◌, ◌∷◌, ◌+◌, ◌-◌, ◌<◌, [], List, ℕ, length, take, drop, arith, ap, sym, subst, ◌∙◌}
use Rattle.std.specs.List.{All}
use Rattle.std.proofs.lemmas.List.{take_rest, length-take, length-drop}
use Rattle.std.proofs.lemmas.List.Elements.{All-drop}
use Rattle.receipt_core.proofs.LimitFacts.{receipt_limit-most}
use Rattle.closure_core.specs.Inside.Flags.{raised_count}
use Rattle.closure_core.specs.Inside.Nodes.{flags_of, count_at}
use Rattle.closure_parts.specs.NodeCounts.{AddsNodes}
use Rattle.trust_closure.specs.Inside.Indexed.{IsIndexed}
use Rattle.closure_parts.proofs.NodeCountFacts.{counts-more, count_at-push, nodes_with-few}
use Rattle.trust_closure.proofs.IndexFacts.{marked-within, marked-few, heads-within, built-counts, gain-more}
use Rattle.trust_closure.proofs.grow.add.Goals as goal

pub raise-requires-clause-nodes : goal.raise-requires-clause-nodes
raise-requires-clause-nodes c =
    let p = c.place_receipt.new.pairs in
    let w = c.place_receipt.new.label_index in
    let count = length c.marked-count.result.now in
    let nodes = c.marked.result.now in
    let all = marked-within c.place_receipt.new.held p w c.place_receipt.ensures.built in
    let whole : All (λ n. n < length p.heads) nodes = subst (All (λ n. n < length p.heads)) (sym (c.marked.ensures.nodes ∙ c.reach-2.ensures.marked)) all in
    subst (All (λ n. n < length p.heads)) (sym (take_rest nodes count)) (All-drop (λ n. n < length p.heads) count nodes whole)

pub raise-requires-clause-heads : goal.raise-requires-clause-heads
raise-requires-clause-heads c = heads-within c.place_receipt.new.held c.place_receipt.new.pairs c.place_receipt.new.label_index c.place_receipt.ensures.built

-- there are no more nodes than configured documents and receipts
pub raise-requires-clause-few : goal.raise-requires-clause-few
raise-requires-clause-few c n =
    let h = c.place_receipt.new.held in
    let p = c.args.pairs.now in
    let w = c.place_receipt.new.label_index in
    let before = c.args.label_index.now in
    let count = length c.marked-count.result.now in
    let nodes = c.marked.result.now in
    let at : count_at c.place_receipt.new.pairs.counts n ≡ count_at p.counts n = ap
    (λ ks. count_at ks n) c.place_receipt.ensures.counts ∙ count_at-push p.counts n in
    omega (
      arith,
      at,
      c.requires.indexed.counts n,
      nodes_with-few p.heads before.marked n,
      ap length c.place_receipt.ensures.front,
      length-take (length before.marked) w.marked,
      ap length (take_rest nodes count),
      length-drop count nodes,
      ap length (c.marked.ensures.nodes ∙ c.reach-2.ensures.marked),
      marked-few h c.place_receipt.new.pairs w c.place_receipt.ensures.built,
      c.config-few.ensures.form.few_seeds,
      c.config-few.ensures.valid.few,
      receipt_limit-most h.config,
      c.config-few.ensures.size,
    )

pub returns-clause-indexed : goal.returns-clause-indexed
returns-clause-indexed c =
    let h = c.place_receipt.new.held in
    let p = c.place_receipt.new.pairs in
    let q = c.raise.new.self in
    let w = c.place_receipt.new.label_index in
    let count = length c.marked-count.result.now in
    let nodes = c.marked.result.now in
    let marked : nodes ≡ w.marked = c.marked.ensures.nodes ∙ c.reach-2.ensures.marked in
    let size : count ≡ length c.args.label_index.now.marked = ap length (c.marked-count.ensures.nodes ∙ c.reach.ensures.marked) in
    let rest : take (length nodes - count) (drop count nodes) ≡ drop count w.marked = take_rest nodes count ∙ ap (drop count) marked in
    let adds : AddsNodes q.heads (drop count w.marked) (c.args.pairs.now.counts ++ 0 ∷ [])
    q.counts =
    subst (λ (ks : List ℕ). AddsNodes q.heads (drop count w.marked) ks q.counts)
    c.place_receipt.ensures.counts
    (subst (λ (fs : List ℕ). AddsNodes fs (drop count w.marked) p.counts q.counts)
    (sym c.raise.ensures.heads)
    (subst (λ (ns : List ℕ). AddsNodes p.heads ns p.counts q.counts) rest c.raise.ensures.adds))
    in
    let indexed : IsIndexed h q w = record {
      built = built-counts h p q w c.place_receipt.ensures.built c.raise.ensures.numbers
          c.raise.ensures.heads c.raise.ensures.adds.size;
      counts = counts-more c.args.pairs.now.heads q.heads c.args.label_index.now.marked w.marked
          c.args.pairs.now.counts q.counts c.place_receipt.ensures.heads.0 count
          (c.raise.ensures.heads ∙ c.place_receipt.ensures.heads.1)
          (ap (λ n. take n w.marked) size ∙ c.place_receipt.ensures.front)
          (marked-within c.args.held.now c.args.pairs.now c.args.label_index.now c.requires.indexed.built)
          c.requires.indexed.counts adds;
    } in
    indexed

pub returns-clause-gain : goal.returns-clause-gain
returns-clause-gain c =
    let h = c.place_receipt.new.held in
    let p = c.place_receipt.new.pairs in
    let q = c.raise.new.self in
    let w = c.place_receipt.new.label_index in
    let count = length c.marked-count.result.now in
    let nodes = c.marked.result.now in
    let marked : nodes ≡ w.marked = c.marked.ensures.nodes ∙ c.reach-2.ensures.marked in
    let size : count ≡ length c.args.label_index.now.marked = ap length (c.marked-count.ensures.nodes ∙ c.reach.ensures.marked) in
    let rest : take (length nodes - count) (drop count nodes) ≡ drop count w.marked = take_rest nodes count ∙ ap (drop count) marked in
    let adds : AddsNodes q.heads (drop count w.marked) (c.args.pairs.now.counts ++ 0 ∷ [])
    q.counts =
    subst (λ (ks : List ℕ). AddsNodes q.heads (drop count w.marked) ks q.counts)
    c.place_receipt.ensures.counts
    (subst (λ (fs : List ℕ). AddsNodes fs (drop count w.marked) p.counts q.counts)
    (sym c.raise.ensures.heads)
    (subst (λ (ns : List ℕ). AddsNodes p.heads ns p.counts q.counts) rest c.raise.ensures.adds))
    in
    let indexed : IsIndexed h q w = record {
      built = built-counts h p q w c.place_receipt.ensures.built c.raise.ensures.numbers
          c.raise.ensures.heads c.raise.ensures.adds.size;
      counts = counts-more c.args.pairs.now.heads q.heads c.args.label_index.now.marked w.marked
          c.args.pairs.now.counts q.counts c.place_receipt.ensures.heads.0 count
          (c.raise.ensures.heads ∙ c.place_receipt.ensures.heads.1)
          (ap (λ n. take n w.marked) size ∙ c.place_receipt.ensures.front)
          (marked-within c.args.held.now c.args.pairs.now c.args.label_index.now c.requires.indexed.built)
          c.requires.indexed.counts adds;
    } in
    gain-more c.args.held.now h c.args.pairs.now q c.args.label_index.now w c.args.receipt
    (drop count w.marked) c.raise.result c.requires.indexed indexed
    c.place_receipt.ensures.held adds (c.raise.ensures.count
    ∙ ap (λ ks. raised_count (flags_of ks) + c.raise.result) c.place_receipt.ensures.counts)
