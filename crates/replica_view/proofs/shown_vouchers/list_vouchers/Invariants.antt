use Rattle.std.proofs.Common.{option_copied}
use Rattle.replica_view.proofs.VoucherFacts.{VouchersSoFar}
use Rattle.replica_view.proofs.shown_vouchers.list_vouchers.Given as goal

abbrev pub invariant-loop-receipt : goal.invariant-loop-receipt
invariant-loop-receipt g l = VouchersSoFar (option_copied l.chosen) l.initial.receipt-iterator l.receipt-iterator l.ids.items
