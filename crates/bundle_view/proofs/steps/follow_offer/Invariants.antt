-- Those before the place that need it were visited.
use Rattle.std.proofs.Common.{◌-◌, length}
use Rattle.bundle_view.proofs.SearchFacts.{Gathers}
use Rattle.bundle_view.proofs.steps.follow_offer.Given as goal

abbrev pub invariant-receipts : goal.invariant-receipts
invariant-receipts l = Gathers l.waiting l.offer l.before l.chain_len l.initial.visited l.initial.steps.items l.initial.place l.place l.visited l.steps.items

abbrev pub decreases-receipts : goal.decreases-receipts
decreases-receipts l = length l.waiting - l.place
