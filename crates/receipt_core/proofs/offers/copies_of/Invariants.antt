use Rattle.std.proofs.Common.{◌≡◌, take}
use Rattle.receipt_core.proofs.offers.copies_of.Given as goal

abbrev pub invariant-loop-offer : goal.invariant-loop-offer
invariant-loop-offer l = l.copies.items ≡ take l.offer-index l.offers
