-- One configured document more.
use Rattle.std.proofs.Common.{sym, ◌∙◌, subst, None}
use Rattle.std.proofs.lemmas.List.{take_all}
use Rattle.bundle_view.specs.Inside.Search.{IsSearchBegun, FollowsOffers}
use Rattle.bundle_view.proofs.GroupFacts.{taken_more}
use Rattle.bundle_view.proofs.TrailFacts.{begun_none, begun_more}
use Rattle.bundle_view.proofs.steps.follow_seeds.Goals as goal

pub loop-seed-init : goal.loop-seed-init
loop-seed-init c = begun_none _ _ _ c.requires.empty c.requires.visits

pub loop-seed-preserved : goal.loop-seed-preserved
loop-seed-preserved c =
    subst (λ seeds. IsSearchBegun seeds c.args.waiting.now c.follow.new.visited c.follow.new.steps.items)
    (sym (taken_more c.args.seeds.now c.loop-seed.seed-index c.seed-item.result c.loop-seed-test.true c.seed-item.is))
    (begun_more _ c.seed-item.result _ _ _ _ _ c.loop-seed.invariant
    (subst (λ offers. FollowsOffers c.args.waiting.now offers None 1 c.loop-seed.steps.items c.follow.new.visited
    c.follow.new.steps.items) (c.as_slice.ensures.value ∙ c.in_ok-offers.ensures) c.in_ok-follow.ensures))

pub returns : goal.returns
returns c = subst (λ seeds. IsSearchBegun seeds c.args.waiting.now c.loop-seed.visited c.loop-seed.steps.items)
    (take_all c.loop-seed.seed-index c.args.seeds.now c.loop-seed-test.false) c.loop-seed.invariant
