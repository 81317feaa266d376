-- A sort moves receipts, and no more.
use Rattle.std.proofs.Common.{rules}
use Rattle.std.specs.Ordering.{is_lt}
use Rattle.std.proofs.lemmas.Fn.{always_returns_same}
use Rattle.std.proofs.lemmas.List.Sorted.{ranks_by}
use Rattle.receipt_core.specs.Receipt.{Receipt, need_of, triple_cmp}
use Rattle.receipt_core.specs.Order.{triple_total}
use Rattle.bundle_view.proofs.WaitingFacts.{trusted_moved}
use Rattle.bundle_view.proofs.trusted_receipts.list_waiting.Goals as goal

pub returns : goal.returns
returns g c = record {
  sorted = c.sort_unstable_by.ensures.sorted (λ (x y : Receipt). is_lt (triple_cmp (need_of x) (need_of y)))
      (ranks_by triple_total need_of) (always_returns_same _ _ _ (λ a r f q. search rules));
  trusted = trusted_moved _ _ _ c.sort_unstable_by.ensures.permutation c.in_ok-waiting.ensures;
}
