use Rattle.side_by_side.proofs.HeldOfferFacts.{held_law}
use Rattle.side_by_side.proofs.OfferFacts.{adds_law, order_law, twice_law}
use Rattle.side_by_side.proofs.laws.offers.Goals as goal

pub returns-clause-adds : goal.returns-clause-adds
returns-clause-adds c = adds_law (record { receipts = c.sets.ensures.receipts; records = c.sets.ensures.records })

pub returns-clause-twice : goal.returns-clause-twice
returns-clause-twice c = twice_law (record { receipts = c.sets.ensures.receipts; records = c.sets.ensures.records })

pub returns-clause-order : goal.returns-clause-order
returns-clause-order c = order_law (record { receipts = c.sets.ensures.receipts; records = c.sets.ensures.records })

pub returns-clause-held : goal.returns-clause-held
returns-clause-held c = held_law
