-- One offer more.
use Rattle.std.proofs.Common.{sym, subst}
use Rattle.bundle_view.specs.Inside.Search.{FollowsOffers}
use Rattle.bundle_view.proofs.GroupFacts.{taken_more}
use Rattle.bundle_view.proofs.SearchFacts.{follows_none, follows_more}
use Rattle.bundle_view.proofs.steps.follow.Goals as goal

pub loop-offer-init : goal.loop-offer-init
loop-offer-init c = follows_none _ _ _ _ _ c.requires.visits

pub loop-offer-preserved : goal.loop-offer-preserved
loop-offer-preserved c =
    subst (λ offers. FollowsOffers c.args.waiting.now offers c.args.before c.args.chain_len c.args.steps.now.items
    c.follow_offer.new.visited c.follow_offer.new.steps.items)
    (sym (taken_more c.args.offers.now c.loop-offer.offer-index c.offer-item.result c.loop-offer-test.true c.offer-item.is))
    (follows_more _ _ c.offer-item.result _ _ _ _ _ _ _ c.loop-offer.invariant c.in_ok-follow_offer.ensures)
