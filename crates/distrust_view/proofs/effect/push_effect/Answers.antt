use Rattle.std.proofs.Common.{◌∙◌, sym, option_copied}
use Rattle.bundle_view.proofs.RisingListFacts.{joined}
use Rattle.distrust_view.specs.DistrustEffect.{distrust_change}
use Rattle.distrust_view.proofs.EffectFacts.{adds_all, adds_fallen}
use Rattle.distrust_view.proofs.effect.push_effect.Goals as goal

pub returns-in_ok-push_keys : goal.returns-in_ok-push_keys
returns-in_ok-push_keys g c =
    adds_all (distrust_change (g.C.Closure.state c.args.before.now).meaning (g.C.Closure.state c.args.after.now).meaning c.args.given.now)
    c.args.domain.now (option_copied c.current-earlier.result) (option_copied c.current-later.result) c.in_ok-push_fallen.ensures.0 _ _ _
    c.in_ok-push_fallen.ensures.1 c.current-earlier.ensures c.current-later.ensures
    (sym c.is_concerned.ensures ∙ c.if-is_concerned.true) c.in_ok-push_fallen.ensures.2
    (joined _ _ _ _ _ c.in_ok-push_change.ensures c.in_ok-push_keys.ensures)

pub returns-else-is_concerned : goal.returns-else-is_concerned
returns-else-is_concerned g c =
    adds_fallen (distrust_change (g.C.Closure.state c.args.before.now).meaning (g.C.Closure.state c.args.after.now).meaning c.args.given.now)
    c.args.domain.now (option_copied c.current-earlier.result) (option_copied c.current-later.result) c.in_ok-push_fallen.ensures.0 _ _
    c.in_ok-push_fallen.ensures.1 c.current-earlier.ensures c.current-later.ensures
    (sym c.is_concerned.ensures ∙ c.if-is_concerned.false) c.in_ok-push_fallen.ensures.2
