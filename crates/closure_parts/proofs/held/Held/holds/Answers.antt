use Rattle.std.proofs.Common.{sym, subst}
use Rattle.std.specs.Bool.{IsTrue}
use Rattle.std.specs.Ordering.{ordering_index}
use Rattle.std.specs.List.{Contains}
use Rattle.std.specs.List.Sorted.{IsNonDecreasingBy}
use Rattle.std.specs.Prelude.{◌↔◌}
use Rattle.receipt_core.specs.Order.{receipt_total}
use Rattle.receipt_core.specs.Receipt.{Receipt, receipt_cmp}
use Rattle.sorted_order.specs.ArenaView.{in_order, FindsNumber}
use Rattle.closure_parts.specs.Held.{HeldReceipts}
use Rattle.closure_core.proofs.RisingFacts.{sought}
use Rattle.closure_parts.proofs.HeldFacts.{finds_held}
use Rattle.closure_parts.proofs.held.Held.holds.Goals as goal

pub find_by_guess-requires : goal.find_by_guess-requires
find_by_guess-requires c = record {
  rising = subst (λ (r : Receipt). IsNonDecreasingBy (λ s. ordering_index (receipt_cmp s r)) (in_order c.self.inside.receipts)) (sym c.new-sought.ensures)
      (sought receipt_total (in_order c.self.inside.receipts) c.args.receipt.now c.self.invariant.rising);
}

pub returns : goal.returns
returns c =
    let found = subst (λ (r : Receipt). FindsNumber (λ s. receipt_cmp s r) c.self.inside.receipts c.find_by_guess.result)
    c.new-sought.ensures c.find_by_guess.ensures in
    subst (λ (h : HeldReceipts). IsTrue c.is_ok.result ↔ Contains h.held c.args.receipt.now) c.self.view_is
    (subst (λ b. IsTrue b ↔ Contains (in_order c.self.inside.receipts) c.args.receipt.now) (sym c.is_ok.ensures.value)
    (finds_held c.self.inside.receipts c.args.receipt.now c.find_by_guess.result c.self.invariant.receipts c.domain-form.ensures.form found))
