-- The lines of the domains, as far as they are made
use Rattle.std.specs.Prelude.{◌≡◌, ℕ, List, ◌++◌, map, flat_map, Contains}
use Rattle.fed_config.specs.Configuration.{AreDomains}
use Rattle.distrust_view.specs.DistrustEffect.{DistrustChange, DomainEffect, IsDomainEffect}
use Rattle.distrust_view.specs.DistrustEffect.{effect_text}

-- the domain's lines were added
pub record AddsEffect (change : DistrustChange) (domain : List ℕ) (old new : List ℕ)
    : Type 0 where
  pub effect : DomainEffect
  pub domain_is : effect.domain ≡ domain
  pub is : IsDomainEffect change effect
  pub now : new ≡ old ++ effect_text change effect

-- The lines of these domains were made.
pub record HasEffects (change : DistrustChange) (domains : List (List ℕ)) (text : List ℕ)
    : Type 0 where
  pub effects : List DomainEffect
  pub domains_are : map (λ e. e.domain) effects ≡ domains
  pub each : (e : DomainEffect) → Contains effects e → IsDomainEffect change e
  pub now : text ≡ flat_map (effect_text change) effects

-- The lines of all domains were made.
pub record HasAllEffects (change : DistrustChange) (text : List ℕ) : Type 0 where
  pub domains : List (List ℕ)
  pub are_domains : AreDomains change.old.config domains
  pub has : HasEffects change domains text
