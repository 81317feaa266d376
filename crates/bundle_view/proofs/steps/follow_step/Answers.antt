-- The step's chain and one receipt more.
use Rattle.std.proofs.Common.{◌≡◌, ◌+◌, Some, length, refl, sym, ◌∙◌, subst}
use Rattle.std.specs.Prelude.{slice_get, OnOk}
use Rattle.std.proofs.lemmas.Option.{slice_get_read, same_Some}
use Rattle.receipt_core.specs.Receipt.{offers_of, pair_of}
use Rattle.bundle_view.specs.Inside.Search.{Stride, FollowsOffers}
use Rattle.bundle_view.proofs.steps.follow_step.Goals as goal

pub returns : goal.returns
returns c s at =
    let here : slice_get c.args.steps.now.items c.args.place ≡ Some c.index-step.result.now =
    slice_get_read c.args.steps.now.items (length c.args.steps.now.items) c.args.place c.index-step.result.now refl c.requires.within c.index-step.ensures
    in
    subst (λ (x : Stride). OnOk c.follow.result
    (FollowsOffers c.args.waiting.now (offers_of (pair_of x.receipt)) (Some c.args.place) (x.length + 1)
    c.args.steps.now.items c.follow.new.visited c.follow.new.steps.items))
    (c.step.view_is ∙ same_Some c.index-step.result.now s (sym here ∙ at))
    (subst (λ offers. OnOk c.follow.result
    (FollowsOffers c.args.waiting.now offers (Some c.args.place) (c.step.inside.length + 1) c.args.steps.now.items
    c.follow.new.visited c.follow.new.steps.items)) c.offers.ensures c.follow.ensures)
