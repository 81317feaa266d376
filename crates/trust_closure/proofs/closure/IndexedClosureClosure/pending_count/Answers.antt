-- Pending are the receipts whose nodes are not marked.
use Rattle.std.proofs.Common.{◌+◌, ◌-◌, [], None, length, arith, ap, subst, ◌∙◌}
use Rattle.fed_config.specs.Configuration.{Configuration}
use Rattle.receipt_core.specs.Receipt.{Receipt}
use Rattle.closure_core.specs.AcceptedList.{IsPendingCount}
use Rattle.trust_closure.proofs.IndexFacts.{pending-count, marked-few}
use Rattle.trust_closure.proofs.closure.IndexedClosureClosure.pending_count.Goals as goal

pub overflow_sub-result : goal.overflow_sub-result
overflow_sub-result c =
    omega (
      arith,
      marked-few c.self.inside.held c.self.inside.pairs c.self.inside.label_index c.self.invariant.indexed.built,
      ap length (c.marked.ensures.nodes ∙ c.reach.ensures.marked),
      ap length c.arrived.ensures,
      ap length (c.seeds.ensures ∙ ap (λ (a : Configuration). a.seeds) c.config-config.ensures.config),
    )

pub returns : goal.returns
returns c =
    let none : Receipt = record {
      domain = [];
      endpoint = record { text = []; domain = []; path = [] };
      document =
          record { authorities = []; rank = None; hint = None };
      voucher = record { 0 = [] };
      key = record { 0 = [] };
    } in
    let n = (length c.seeds.result.now + length c.arrived.result.now) - length c.marked.result.now in
    subst (λ v. IsPendingCount v.state.meaning n) c.self.view_is
    (pending-count c.self.inside.held c.self.inside.pairs c.self.inside.label_index none n c.self.invariant.indexed.built
    (omega (
      arith,
      marked-few c.self.inside.held c.self.inside.pairs c.self.inside.label_index c.self.invariant.indexed.built,
      ap length (c.marked.ensures.nodes ∙ c.reach.ensures.marked),
      ap length c.arrived.ensures,
      ap length (c.seeds.ensures ∙ ap (λ (a : Configuration). a.seeds) c.config-config.ensures.config),
    )))
