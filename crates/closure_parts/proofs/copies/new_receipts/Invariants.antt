-- The count is that of the receipts so far that are not held.
use Rattle.closure_parts.proofs.MergeFacts.{IsCounted}
use Rattle.receipt_core.specs.Limits.{most_receipts}
use Rattle.closure_parts.proofs.copies.new_receipts.Given as goal

abbrev pub invariant-loop-receipt : goal.invariant-loop-receipt
invariant-loop-receipt l = IsCounted l.held.held l.initial.receipt-iterator l.receipt-iterator l.count most_receipts
