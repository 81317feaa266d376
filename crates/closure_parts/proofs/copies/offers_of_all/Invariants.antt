-- These are the offers of the receipts so far.
use Rattle.std.proofs.Common.{◌≡◌, take}
use Rattle.closure_core.specs.Refusals.{offers_count}
use Rattle.closure_parts.proofs.copies.offers_of_all.Given as goal

abbrev pub invariant-loop-receipt : goal.invariant-loop-receipt
invariant-loop-receipt l = offers_count (take l.receipt-index l.receipts) ≡ l.offers
