use Rattle.std.proofs.Common.{take}
use Rattle.distrust_view.specs.DistrustEffect.{distrust_change}
use Rattle.distrust_view.specs.Inside.Effects.{HasEffects}
use Rattle.distrust_view.proofs.effect.effects_text.Given as goal

abbrev pub invariant-loop-domain : goal.invariant-loop-domain
invariant-loop-domain g l =
    HasEffects (distrust_change (g.C.Closure.state l.before).meaning (g.C.Closure.state l.after).meaning l.given)
    (take l.domain-index l.domain-items) l.out.items
