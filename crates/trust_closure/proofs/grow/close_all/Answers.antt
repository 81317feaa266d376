-- The labels of distrusted keys are closed, and what fell is no longer counted.
use Rattle.std.proofs.Common.{List, ℕ, length, arith, sym, ap, subst}
use Rattle.fed_config.specs.Configuration.{Configuration, AreDomains}
use Rattle.receipt_core.proofs.LimitFacts.{receipt_limit-most}
use Rattle.label_index.specs.Labels.{Closes}
use Rattle.closure_parts.specs.Held.{HeldReceipts}
use Rattle.closure_parts.specs.NodeCounts.{AreCounts}
use Rattle.trust_closure.specs.Inside.Indexed.{IsBuilt, IsDistrusted, WasIndexed}
use Rattle.trust_closure.proofs.IndexFacts.{heads-within, pairs-few, distrusted-shut, shuts-all, built-closed, was-counted, work-of}
use Rattle.trust_closure.proofs.grow.close_all.Goals as goal

pub recount-requires-clause-before : goal.recount-requires-clause-before
recount-requires-clause-before c =
    let h = c.args.held.now in
    let more = c.requires.before.0 in
    let b : WasIndexed h more c.args.pairs.now c.args.label_index.now = c.requires.before.1 in
    let p = c.args.pairs.now in
    let w = c.args.label_index.now in
    let v = c.close_where-work.new.self in
    let work : ℕ = c.close_where-work.result in
    let closes : Closes w (IsDistrusted h) v work =
    subst (λ (x : HeldReceipts). Closes w (IsDistrusted x) v work) c.new.ensures c.close_where-work.ensures.closes in
    was-counted b.old p w v c.reach.result.now (IsDistrusted h) work b.indexed closes
    c.reach.ensures.marked c.reach.ensures.last

pub recount-requires-clause-heads : goal.recount-requires-clause-heads
recount-requires-clause-heads c = let b = c.requires.before.1 in heads-within b.old
    c.args.pairs.now c.args.label_index.now b.indexed.built

pub recount-requires-clause-few : goal.recount-requires-clause-few
recount-requires-clause-few c =
    let b = c.requires.before.1 in
    pairs-few b.old c.args.pairs.now b.indexed.built.pairing
    (omega (
      arith,
      c.config-valid.ensures.form.few_seeds,
      ap (λ (k : Configuration). length k.seeds)
          b.before.config,
    ))
    (omega (
      arith,
      c.config-valid.ensures.valid.few,
      receipt_limit-most c.args.held.now.config,
      c.config-valid.ensures.size,
      ap length
          b.before.arrived,
    ))

pub returns-clause-indexed : goal.returns-clause-indexed
returns-clause-indexed c =
    let h = c.args.held.now in
    let more = c.requires.before.0 in
    let b : WasIndexed h more c.args.pairs.now c.args.label_index.now = c.requires.before.1 in
    let p = c.args.pairs.now in
    let w = c.args.label_index.now in
    let v = c.close_where-work.new.self in
    let work : ℕ = c.close_where-work.result in
    let closes : Closes w (IsDistrusted h) v work =
    subst (λ (x : HeldReceipts). Closes w (IsDistrusted x) v work) c.new.ensures c.close_where-work.ensures.closes in
    let q = c.recount.new.pairs in
    let built : IsBuilt h q v = built-closed b.old h more p q w v (IsDistrusted h) work
    b.indexed.built b.before c.config-valid.ensures.valid
    (λ domains d. shuts-all domains b.old.records h.records more (IsDistrusted h) b.before.records
    (distrusted-shut h domains (subst (λ (k : Configuration). AreDomains k domains)
    (sym b.before.config) d)))
    closes c.close_where-work.ensures.reached c.recount.ensures.numbers c.recount.ensures.heads
    c.recount.ensures.size in
    record {
      built = built;
      counts = subst (λ (ns : List ℕ). AreCounts q.heads ns q.counts)
          c.reach.ensures.marked c.recount.ensures.counts;
    }

pub returns-clause-work : goal.returns-clause-work
returns-clause-work c old before spare count was is =
    let h = c.args.held.now in
    let more = c.requires.before.0 in
    let b : WasIndexed h more c.args.pairs.now c.args.label_index.now = c.requires.before.1 in
    let p = c.args.pairs.now in
    let w = c.args.label_index.now in
    let v = c.close_where-work.new.self in
    let work : ℕ = c.close_where-work.result in
    let closes : Closes w (IsDistrusted h) v work =
    subst (λ (x : HeldReceipts). Closes w (IsDistrusted x) v work) c.new.ensures c.close_where-work.ensures.closes in
    let q = c.recount.new.pairs in
    let built : IsBuilt h q v = built-closed b.old h more p q w v (IsDistrusted h) work
    b.indexed.built b.before c.config-valid.ensures.valid
    (λ domains d. shuts-all domains b.old.records h.records more (IsDistrusted h) b.before.records
    (distrusted-shut h domains (subst (λ (k : Configuration). AreDomains k domains)
    (sym b.before.config) d)))
    closes c.close_where-work.ensures.reached c.recount.ensures.numbers c.recount.ensures.heads
    c.recount.ensures.size in
    work-of old h before p q w v spare count work was is.built built c.config-valid.ensures.size
    closes
