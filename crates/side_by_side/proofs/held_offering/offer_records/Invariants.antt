-- The records so far were offered.
use Rattle.receipt_core.specs.Receipt.{distrust_line}
use Rattle.side_by_side.specs.Offering.{as_kept, none_offered}
use Rattle.side_by_side.proofs.HeldOfferFacts.{OffersSome}
use Rattle.side_by_side.proofs.held_offering.offer_records.Given as goal

abbrev pub invariant-records : goal.invariant-records
invariant-records g l = OffersSome distrust_line (as_kept (g.C.Closure.state l.initial.to).meaning l.initial.journal.items)
    l.initial.domain-iterator l.domain-iterator
    (as_kept (g.C.Closure.state l.to).meaning l.journal.items) none_offered l.offered
