-- Those so far that are not held are copied.
use Rattle.closure_parts.proofs.MergeFacts.{IsCopied}
use Rattle.closure_parts.proofs.copies.copies_of_new.Given as goal

abbrev pub invariant-loop-receipt : goal.invariant-loop-receipt
invariant-loop-receipt l = IsCopied l.held.held l.initial.receipt-iterator l.receipt-iterator l.copies.items
