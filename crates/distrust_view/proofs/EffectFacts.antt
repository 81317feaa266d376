-- What work over the domains of a configuration results in.
use Rattle.std.proofs.Common.{◌≡◌, ℕ, List, [], ◌∷◌, ◌++◌, Option, true, false, cond, refl, sym, ap, ◌∙◌, subst, arith, inl, inr, flat_map}
use Rattle.std.proofs.Common.{append-nil, append_assoc}
use Rattle.std.proofs.lemmas.List.{map-append, flat_map_more}
use Rattle.std.proofs.lemmas.List.Elements.{Contains-push_cases}
use Rattle.bundle_doc.specs.Bundle.{Bundle}
use Rattle.fed_config.specs.Configuration.{AreDomains}
use Rattle.bundle_view.specs.Current.{IsCurrent}
use Rattle.distrust_view.specs.DistrustEffect.{DistrustChange, DomainEffect, IsDomainEffect, AreFallen, IsEffectText}
use Rattle.distrust_view.specs.DistrustEffect.{effect_text, fall_line, current_text, is_concerned, warning_text}
use Rattle.distrust_view.specs.Inside.Effects.{AddsEffect, HasEffects, HasAllEffects}

-- before the first domain there are no lines
pub effects_none : (change : DistrustChange) (new : List ℕ) → new ≡ [] → HasEffects change [] new
effects_none change new empty = record { effects = []; domains_are = refl; each = λ e h. absurd (omega (arith, h.1)); now = empty }

-- the lines of one more domain were added: the step of the loop in `effects_text`
pub effects_more : (change : DistrustChange) (domains : List (List ℕ)) (domain : List ℕ) (old new : List ℕ)
    → HasEffects change domains old → AddsEffect change domain old new → HasEffects change (domains ++ domain ∷ []) new
effects_more change domains domain old new has adds = record {
  effects = has.effects ++ adds.effect ∷ [];
  domains_are = map-append (λ (e : DomainEffect). e.domain) has.effects (adds.effect ∷ []) ∙ (λ i. has.domains_are i ++ adds.domain_is i ∷ []);
  each = λ e h. elim (Contains-push_cases has.effects adds.effect e h) [
    | inl old ↦ has.each e old
    | inr same ↦ subst (IsDomainEffect change) same adds.is
  ];
  now = adds.now ∙ ap (λ t. t ++ effect_text change adds.effect) has.now ∙ flat_map_more (effect_text change) [] has.effects adds.effect;
}

-- after the last domain comes the warning
pub effects_all : (change : DistrustChange) (text whole : List ℕ) → HasAllEffects change text
    → whole ≡ text ++ warning_text change.old change.given → IsEffectText change whole
effects_all change text whole all now = record {
  effects = all.has.effects;
  domains = subst (AreDomains change.old.config) (sym all.has.domains_are) all.are_domains;
  each = all.has.each;
  is = now ∙ ap (λ t. t ++ warning_text change.old change.given) all.has.now;
}

-- ---- one domain

-- what changes in a domain, of its parts
abbrev pub effect_of : List ℕ → Option Bundle → Option Bundle → List Bundle → DomainEffect
effect_of domain before after fallen = record { domain = domain; before = before; after = after; fallen = fallen }

-- a domain that keeps its current document, and is not the record's, has the lines of what falls
pub adds_fallen : (change : DistrustChange) (domain : List ℕ) (before after : Option Bundle) (fallen : List Bundle) (old new : List ℕ)
    → AreFallen change.old change.new domain fallen → IsCurrent change.old domain before → IsCurrent change.new domain after
    → is_concerned change.given domain before after ≡ false → new ≡ old ++ flat_map (fall_line domain) fallen
    → AddsEffect change domain old new
adds_fallen change domain before after fallen old new are was is calm now = record {
  effect = effect_of domain before after fallen;
  domain_is = refl;
  is = record { before = was; after = is; fallen = are };
  now = now ∙ ap (λ t. old ++ t) (sym (append-nil (flat_map (fall_line domain) fallen)))
      ∙ ap (λ b. old ++ (flat_map (fall_line domain) fallen ++ cond b (current_text change.new.records (effect_of domain before after fallen)) []))
      (sym calm);
}

-- each other one has all its lines
pub adds_all : (change : DistrustChange) (domain : List ℕ) (before after : Option Bundle) (fallen : List Bundle) (old out new : List ℕ)
    → AreFallen change.old change.new domain fallen → IsCurrent change.old domain before → IsCurrent change.new domain after
    → is_concerned change.given domain before after ≡ true → out ≡ old ++ flat_map (fall_line domain) fallen
    → new ≡ out ++ current_text change.new.records (effect_of domain before after fallen) → AddsEffect change domain old new
adds_all change domain before after fallen old out new are was is concerned first now = record {
  effect = effect_of domain before after fallen;
  domain_is = refl;
  is = record { before = was; after = is; fallen = are };
  now = now ∙ ap (λ t. t ++ current_text change.new.records (effect_of domain before after fallen)) first
      ∙ append_assoc old (flat_map (fall_line domain) fallen) (current_text change.new.records (effect_of domain before after fallen))
      ∙ ap (λ b. old ++ (flat_map (fall_line domain) fallen ++ cond b (current_text change.new.records (effect_of domain before after fallen)) []))
      (sym concerned);
}
