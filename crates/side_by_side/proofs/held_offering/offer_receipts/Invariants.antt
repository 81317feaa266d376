-- The receipts so far were offered.
use Rattle.receipt_core.specs.Receipt.{line}
use Rattle.side_by_side.specs.Offering.{as_kept}
use Rattle.side_by_side.proofs.HeldOfferFacts.{OffersSome}
use Rattle.side_by_side.proofs.held_offering.offer_receipts.Given as goal

abbrev pub invariant-receipts : goal.invariant-receipts
invariant-receipts g l = OffersSome line (as_kept (g.C.Closure.state l.initial.to).meaning l.initial.journal.items)
    l.initial.receipt-iterator l.receipt-iterator
    (as_kept (g.C.Closure.state l.to).meaning l.journal.items) l.fn.before l.offered
