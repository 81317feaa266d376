mod DocumentFacts
mod PickedFacts
mod EffectFacts
