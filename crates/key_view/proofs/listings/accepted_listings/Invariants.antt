use Rattle.key_view.proofs.ListingFacts.{AreListed}
use Rattle.key_view.proofs.listings.accepted_listings.Given as goal

abbrev pub invariant-loop-earlier : goal.invariant-loop-earlier
invariant-loop-earlier l = AreListed l.domain l.accepted l.earlier l.listings
