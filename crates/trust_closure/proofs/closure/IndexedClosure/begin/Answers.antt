-- The nodes of the configured documents are marked, and their documents' flags are raised.
use Rattle.std.proofs.Common.{◌≡◌, ◌<◌, length, arith, ap, sym, subst, ◌∙◌}
use Rattle.std.specs.List.{All}
use Rattle.fed_config.specs.declared.seed.Seed.{Seed}
use Rattle.fed_config.specs.Configuration.{Configuration, HasDomain, AreDomains}
use Rattle.receipt_core.specs.Acceptance.{Meaning}
use Rattle.trust_closure.proofs.IndexFacts.{seeds-domains, built-seeded, kept-seeded, marked-within, marked-few, heads-within}
use Rattle.trust_closure.proofs.closure.IndexedClosure.begin.Goals as goal

pub add_seeds-requires-clause-domains : goal.add_seeds-requires-clause-domains
add_seeds-requires-clause-domains c =
    subst (All (λ (s : Seed). HasDomain c.in_ok-held.held.config s.domain))
    (sym (c.seeds.ensures ∙ ap (λ (a : Configuration). a.seeds) c.config-2.ensures.config))
    (seeds-domains c.in_ok-held.held.config)

pub raise-requires-clause-nodes : goal.raise-requires-clause-nodes
raise-requires-clause-nodes c =
    let h = c.in_ok-held.held in
    let p = c.add_seeds.new.pairs in
    let w = c.add_seeds.new.label_index in
    let seeds : c.seeds.result.now ≡ h.config.seeds = c.seeds.ensures ∙ ap (λ (a : Configuration). a.seeds) c.config-2.ensures.config in
    let marked : c.marked.result.now ≡ w.marked = c.marked.ensures.nodes ∙ c.reach.ensures.marked in
    let built = built-seeded h c.domains-domains.result.now p w c.seeds.result.now c.config.ensures.valid
    (ap (λ (m : Meaning). m.held) c.in_ok-held.ensures.0) c.in_ok-held.ensures.1
    (subst (λ (k : Configuration). AreDomains k c.domains-domains.result.now) c.config.ensures.config
    c.domains-domains.ensures.all) seeds c.in_ok-add_seeds.ensures in
    subst (All (λ n. n < length p.heads)) (sym marked) (marked-within h p w built)

pub raise-requires-clause-heads : goal.raise-requires-clause-heads
raise-requires-clause-heads c =
    let h = c.in_ok-held.held in
    let p = c.add_seeds.new.pairs in
    let w = c.add_seeds.new.label_index in
    let seeds : c.seeds.result.now ≡ h.config.seeds = c.seeds.ensures ∙ ap (λ (a : Configuration). a.seeds) c.config-2.ensures.config in
    let built = built-seeded h c.domains-domains.result.now p w c.seeds.result.now c.config.ensures.valid
    (ap (λ (m : Meaning). m.held) c.in_ok-held.ensures.0) c.in_ok-held.ensures.1
    (subst (λ (k : Configuration). AreDomains k c.domains-domains.result.now) c.config.ensures.config
    c.domains-domains.ensures.all) seeds c.in_ok-add_seeds.ensures in
    heads-within h p w built

pub raise-requires-clause-few : goal.raise-requires-clause-few
raise-requires-clause-few c n =
    let h = c.in_ok-held.held in
    let p = c.add_seeds.new.pairs in
    let w = c.add_seeds.new.label_index in
    let seeds : c.seeds.result.now ≡ h.config.seeds = c.seeds.ensures
    ∙ ap (λ (a : Configuration). a.seeds) c.config-2.ensures.config in
    let marked : c.marked.result.now ≡ w.marked = c.marked.ensures.nodes ∙ c.reach.ensures.marked in
    let built = built-seeded h c.domains-domains.result.now p w c.seeds.result.now
    c.config.ensures.valid (ap (λ (m : Meaning). m.held) c.in_ok-held.ensures.0)
    c.in_ok-held.ensures.1 (subst (λ (k : Configuration). AreDomains k
    c.domains-domains.result.now) c.config.ensures.config c.domains-domains.ensures.all) seeds
    c.in_ok-add_seeds.ensures in
    omega (
      arith,
      c.in_ok-add_seeds.ensures.lowered n,
      ap length marked,
      marked-few h p w built,
      c.config.ensures.form.few_seeds,
      ap length c.in_ok-held.ensures.1,
    )

pub invariant_of-result : goal.invariant_of-result
invariant_of-result c =
    let h = c.in_ok-held.held in
    let p = c.add_seeds.new.pairs in
    let w = c.add_seeds.new.label_index in
    let seeds : c.seeds.result.now ≡ h.config.seeds = c.seeds.ensures ∙ ap (λ (a : Configuration). a.seeds) c.config-2.ensures.config in
    let marked : c.marked.result.now ≡ w.marked = c.marked.ensures.nodes ∙ c.reach.ensures.marked in
    let built = built-seeded h c.domains-domains.result.now p w c.seeds.result.now c.config.ensures.valid
    (ap (λ (m : Meaning). m.held) c.in_ok-held.ensures.0) c.in_ok-held.ensures.1
    (subst (λ (k : Configuration). AreDomains k c.domains-domains.result.now) c.config.ensures.config
    c.domains-domains.ensures.all) seeds c.in_ok-add_seeds.ensures in
    kept-seeded h p c.raise.new.self w c.marked.result.now c.seeds.result.now built c.in_ok-add_seeds.ensures c.in_ok-held.ensures.1
    (omega (
      arith,
      c.domains-domains.ensures.form.few_seeds,
      ap length c.seeds.ensures,
      ap (λ (a : Configuration). length a.seeds) c.config-2.ensures.config,
      ap (λ (a : Configuration). length a.seeds) c.config.ensures.config,
    ))
    c.raise.ensures.numbers c.raise.ensures.heads c.raise.ensures.capacity marked
    c.raise.ensures.adds
