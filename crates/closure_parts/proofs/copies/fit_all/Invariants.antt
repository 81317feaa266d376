-- The domains of the receipts so far are known, and this is the first of the other causes that hold for them.
use Rattle.receipt_core.specs.Receipt.{Receipt}
use Rattle.closure_core.specs.Refusals.{IsOfUnknownDomain}
use Rattle.closure_parts.proofs.MergeFacts.{IsPassed, IsCause}
use Rattle.closure_parts.proofs.copies.fit_all.Given as goal

abbrev pub invariant-loop-receipt : goal.invariant-loop-receipt
invariant-loop-receipt l = record {
  known : IsPassed (λ (r : Receipt). IsOfUnknownDomain l.config r → ⊥) l.initial.receipt-iterator l.receipt-iterator;
  cause : IsCause l.config l.initial.receipt-iterator l.receipt-iterator l.cause;
}
