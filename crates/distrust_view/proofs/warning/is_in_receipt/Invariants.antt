use Rattle.std.proofs.Common.{◌≡◌}
use Rattle.std.specs.List.{list_any}
use Rattle.receipt_core.specs.Receipt.{Receipt, pair_of}
use Rattle.distrust_view.specs.DistrustEffect.{is_about}
use Rattle.distrust_view.proofs.warning.is_in_receipt.Given as goal

abbrev pub invariant-loop-receipt : goal.invariant-loop-receipt
invariant-loop-receipt g l = list_any (λ (r : Receipt). is_about l.domain l.key (pair_of r)) l.receipt-iterator
    ≡ list_any (λ (r : Receipt). is_about l.domain l.key (pair_of r)) l.initial.receipt-iterator
