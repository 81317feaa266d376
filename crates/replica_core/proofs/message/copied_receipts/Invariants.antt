use Rattle.std.proofs.Common.{◌≡◌, ◌++◌}
use Rattle.replica_core.proofs.message.copied_receipts.Given as goal

abbrev pub invariant-loop-receipt : goal.invariant-loop-receipt
invariant-loop-receipt l = l.receipts.items ++ l.receipt-iterator ≡ l.initial.receipt-iterator
