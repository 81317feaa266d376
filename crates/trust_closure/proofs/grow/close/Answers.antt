-- The labels of the key are closed, and what fell is no longer counted.
use Rattle.std.proofs.Common.{◌<◌, ◌∷◌, [], List, ℕ, length, arith, sym, ap, subst, ◌∙◌}
use Rattle.std.specs.Prelude.{◌↔◌}
use Rattle.fed_config.specs.Configuration.{Configuration, AreDomains}
use Rattle.receipt_core.specs.declared.distrust.Distrust.{Distrust}
use Rattle.receipt_core.proofs.LimitFacts.{receipt_limit-most}
use Rattle.label_index.specs.declared.label.Label.{Label}
use Rattle.label_index.specs.Labels.{IsOfKey, Closes}
use Rattle.closure_parts.specs.Held.{IsShutBy}
use Rattle.trust_closure.specs.Inside.NetOf.{triple_by}
use Rattle.closure_parts.specs.NodeCounts.{AreCounts}
use Rattle.trust_closure.specs.Inside.Indexed.{IsBuilt, IsIndexed}
use Rattle.trust_closure.proofs.IndexFacts.{heads-within, pairs-few, key-shut, shuts-more, built-closed, was-counted, closes-at_once, loss-closed}
use Rattle.trust_closure.proofs.grow.close.Goals as goal

pub recount-lost-requires-clause-before : goal.recount-lost-requires-clause-before
recount-lost-requires-clause-before c =
    let b = c.requires.before in
    let x : Distrust = record { domain = c.args.domain.now; key = c.args.key } in
    let number : ℕ = c.domain_number-number.result in
    let p = c.args.pairs.now in
    let w = c.args.label_index.now in
    let v = c.close_key-work.new.self in
    let work : ℕ = c.close_key-work.result in
    let closes : Closes w (IsOfKey number x.key) v work = c.close_key-work.ensures.closes in
    let i = c.reach.result.now in
    was-counted b.old p w v i (IsOfKey number x.key) work b.indexed closes c.reach.ensures.marked
    c.reach.ensures.last

pub recount-lost-requires-clause-heads : goal.recount-lost-requires-clause-heads
recount-lost-requires-clause-heads c = let b = c.requires.before in heads-within b.old
    c.args.pairs.now c.args.label_index.now b.indexed.built

pub recount-lost-requires-clause-few : goal.recount-lost-requires-clause-few
recount-lost-requires-clause-few c =
    let b = c.requires.before in
    pairs-few b.old c.args.pairs.now b.indexed.built.pairing
    (omega (
      arith,
      c.config.ensures.form.few_seeds,
      ap (λ (k : Configuration). length k.seeds)
          b.before.config,
    ))
    (omega (
      arith,
      c.config.ensures.valid.few,
      receipt_limit-most c.args.held.now.config,
      c.config.ensures.size,
      ap length b.before.arrived,
    ))

pub returns-clause-indexed : goal.returns-clause-indexed
returns-clause-indexed c =
    let b = c.requires.before in
    let x : Distrust = record { domain = c.args.domain.now; key = c.args.key } in
    let number : ℕ = c.domain_number-number.result in
    let p = c.args.pairs.now in
    let w = c.args.label_index.now in
    let v = c.close_key-work.new.self in
    let work : ℕ = c.close_key-work.result in
    let closes : Closes w (IsOfKey number x.key) v work = c.close_key-work.ensures.closes in
    let i = c.reach.result.now in
    let means : (domains : List (List ℕ)) → AreDomains b.old.config domains → (label : Label)
    → label.domain < length domains → IsOfKey number x.key label ↔ IsShutBy (x ∷ [])
    (triple_by domains label) =
    λ domains d. key-shut domains x number d.rising
    (c.domain_number-number.ensures domains
    (subst (λ (k : Configuration). AreDomains k domains)
    (sym (c.config.ensures.config ∙ b.before.config)) d)) in
    let q = c.recount-lost.new.pairs in
    let built : IsBuilt c.args.held.now q v = built-closed b.old c.args.held.now (x ∷ []) p q w v
    (IsOfKey number x.key) work b.indexed.built b.before c.config.ensures.valid
    (λ domains d. shuts-more domains (x ∷ []) b.old.records (IsOfKey number x.key)
    (means domains d)) closes c.close_key-work.ensures.reached c.recount-lost.ensures.numbers
    c.recount-lost.ensures.heads c.recount-lost.ensures.size in
    let indexed : IsIndexed c.args.held.now q v = record {
      built = built;
      counts = subst (λ (ns : List ℕ). AreCounts q.heads ns q.counts)
          c.reach.ensures.marked c.recount-lost.ensures.counts;
    } in
    indexed

pub returns-clause-loss : goal.returns-clause-loss
returns-clause-loss c old before was =
    let b = c.requires.before in
    let x : Distrust = record { domain = c.args.domain.now; key = c.args.key } in
    let number : ℕ = c.domain_number-number.result in
    let p = c.args.pairs.now in
    let w = c.args.label_index.now in
    let v = c.close_key-work.new.self in
    let work : ℕ = c.close_key-work.result in
    let closes : Closes w (IsOfKey number x.key) v work = c.close_key-work.ensures.closes in
    let i = c.reach.result.now in
    let means : (domains : List (List ℕ)) → AreDomains b.old.config domains → (label : Label)
    → label.domain < length domains → IsOfKey number x.key label ↔ IsShutBy (x ∷ [])
    (triple_by domains label) =
    λ domains d. key-shut domains x number d.rising
    (c.domain_number-number.ensures domains
    (subst (λ (k : Configuration). AreDomains k domains)
    (sym (c.config.ensures.config ∙ b.before.config)) d)) in
    let q = c.recount-lost.new.pairs in
    let built : IsBuilt c.args.held.now q v = built-closed b.old c.args.held.now (x ∷ []) p q w v
    (IsOfKey number x.key) work b.indexed.built b.before c.config.ensures.valid
    (λ domains d. shuts-more domains (x ∷ []) b.old.records (IsOfKey number x.key)
    (means domains d)) closes c.close_key-work.ensures.reached c.recount-lost.ensures.numbers
    c.recount-lost.ensures.heads c.recount-lost.ensures.size in
    let indexed : IsIndexed c.args.held.now q v = record {
      built = built;
      counts = subst (λ (ns : List ℕ). AreCounts q.heads ns q.counts)
          c.reach.ensures.marked c.recount-lost.ensures.counts;
    } in
    loss-closed old c.args.held.now (x ∷ []) p q w v c.recount-lost.result was indexed before
    c.recount-lost.ensures.size c.recount-lost.ensures.numbers c.recount-lost.ensures.count

pub returns-clause-work : goal.returns-clause-work
returns-clause-work c old spare before_work before was =
    let b = c.requires.before in
    let x : Distrust = record { domain = c.args.domain.now; key = c.args.key } in
    let number : ℕ = c.domain_number-number.result in
    let p = c.args.pairs.now in
    let w = c.args.label_index.now in
    let v = c.close_key-work.new.self in
    let work : ℕ = c.close_key-work.result in
    let closes : Closes w (IsOfKey number x.key) v work = c.close_key-work.ensures.closes in
    closes-at_once old c.args.held.now p w v spare spare before_work work (x ∷ [])
    (IsOfKey number x.key) was.built closes
    (λ domains d. key-shut domains x number d.rising
    (c.domain_number-number.ensures domains
    (subst (λ (k : Configuration). AreDomains k domains)
    (sym (c.config.ensures.config ∙ before.config)) d)))
