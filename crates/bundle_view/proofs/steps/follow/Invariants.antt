use Rattle.std.proofs.Common.{take}
use Rattle.bundle_view.specs.Inside.Search.{FollowsOffers}
use Rattle.bundle_view.proofs.steps.follow.Given as goal

abbrev pub invariant-loop-offer : goal.invariant-loop-offer
invariant-loop-offer l = FollowsOffers l.waiting (take l.offer-index l.offers) l.before l.chain_len l.initial.steps.items l.visited l.steps.items
