-- The flags of the configured documents are raised, and no others.
use Rattle.std.proofs.Common.{◌≡◌, ◌∙◌, [], List, Bool, length, arith, ap, sym, subst, refl}
use Rattle.fed_config.specs.Configuration.{Configuration}
use Rattle.receipt_core.specs.Acceptance.{Meaning}
use Rattle.closure_core.specs.Inside.Nodes.{flags_of}
use Rattle.plain_closure.specs.Plain.{HasPlainFlags}
use Rattle.plain_closure.proofs.PlainChangeFacts.{heads-within, raised-as, settled-from}
use Rattle.plain_closure.proofs.SownFacts.{sown-set, none-released}
use Rattle.plain_closure.proofs.closure.PlainClosureClosure.new.Goals as goal

pub count_accepted-requires-clause-heads : goal.count_accepted-requires-clause-heads
count_accepted-requires-clause-heads c =
    let h = c.in_ok-held.held in
    let p = c.sow_all.new.pairs in
    let offers = c.sow_all.new.seed_offers.items in
    let seeds : c.seeds-seeds.result.now ≡ h.config.seeds = c.seeds-seeds.ensures ∙ ap (λ (a : Configuration). a.seeds) c.config-2.ensures.config in
    heads-within h p offers [] (sown-set h p offers c.seeds-seeds.result.now seeds c.config.ensures.valid
    (ap (λ (m : Meaning). m.held) c.in_ok-held.ensures.0) c.in_ok-held.ensures.1 c.in_ok-sow_all.ensures)

pub invariant_of-result : goal.invariant_of-result
invariant_of-result c =
    let h = c.in_ok-held.held in
    let p = c.sow_all.new.pairs in
    let q = c.count_accepted.new.pairs in
    let offers = c.sow_all.new.seed_offers.items in
    let seeds : c.seeds-seeds.result.now ≡ h.config.seeds = c.seeds-seeds.ensures ∙ ap (λ (a : Configuration). a.seeds) c.config-2.ensures.config in
    let arrived = c.in_ok-held.ensures.1 in
    let set = sown-set h p offers c.seeds-seeds.result.now seeds c.config.ensures.valid
    (ap (λ (m : Meaning). m.held) c.in_ok-held.ensures.0) arrived c.in_ok-sow_all.ensures in
    let raised = raised-as (flags_of q.counts) (length c.seeds-seeds.result.now)
    (length h.config.seeds) c.deref.result.now [] p.heads p.heads (ap length seeds)
    (c.deref.ensures.value ∙ c.new-released.ensures.items) refl c.count_accepted.ensures.raised in
    record {
      settled = subst (λ (fs : List Bool). HasPlainFlags h q offers fs) (sym c.new-released.ensures.items)
          (settled-from h p q offers [] [] set refl (none-released h [] arrived) c.count_accepted.ensures.numbers
          c.count_accepted.ensures.heads c.count_accepted.ensures.size raised);
      room = record {
        held = omega (arith, ap length arrived);
        pairs = omega (arith, c.in_ok-sow_all.ensures.room, ap length c.count_accepted.ensures.heads, c.count_accepted.ensures.capacity);
        released = omega (arith, ap length c.new-released.ensures.items);
        few = omega (
          arith,
          c.domains-domains.ensures.form.few_seeds,
          ap length c.seeds-seeds.ensures,
          ap (λ (a : Configuration). length a.seeds) c.config-2.ensures.config,
          ap (λ (a : Configuration). length a.seeds) c.config.ensures.config,
          c.in_ok-sow_all.ensures.heads,
          ap length c.count_accepted.ensures.heads,
        );
      };
    }
