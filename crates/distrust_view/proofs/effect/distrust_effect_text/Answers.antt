use Rattle.distrust_view.proofs.EffectFacts.{effects_all}
use Rattle.distrust_view.proofs.effect.distrust_effect_text.Goals as goal

pub returns : goal.returns
returns g c = effects_all _ _ _ c.in_ok-out.ensures c.in_ok-push_warnings.ensures
