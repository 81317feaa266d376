-- What work over the domains of a configuration results in.
use Rattle.std.proofs.Common.{◌≡◌, ℕ, List, [], ◌∷◌, ◌++◌, map, sym, ap, ◌∙◌, subst, arith, inl, inr}
use Rattle.std.specs.Prelude.{Contains}
use Rattle.std.proofs.lemmas.List.{map-append}
use Rattle.std.proofs.lemmas.List.Elements.{Contains-push_cases}
use Rattle.fed_config.specs.Configuration.{AreDomains}
use Rattle.receipt_core.specs.Acceptance.{Meaning}
use Rattle.key_view.specs.declared.key_listing.DomainKeys.{DomainKeys}
use Rattle.key_view.specs.KeyEntries.{AreAllKeys, IsDomainKeys}
use Rattle.key_view.specs.Inside.KeysSoFar.{AreKeysOf}

-- before the first domain there are no keys
pub keys_none : (m : Meaning) (new : List DomainKeys) → new ≡ [] → AreKeysOf m [] new
keys_none m new empty = record {
  domains_are = ap (map (λ (k : DomainKeys). k.domain)) empty;
  each = λ k h. absurd (let none = subst (λ ks. Contains ks k) empty h in omega (arith, none.1));
}

-- one more domain: the step of the loop in `domain_keys`
pub keys_more : (m : Meaning) (domains : List (List ℕ)) (domain : List ℕ) (old new : List DomainKeys) (k : DomainKeys)
    → AreKeysOf m domains old → k.domain ≡ domain → IsDomainKeys m k → new ≡ old ++ k ∷ [] → AreKeysOf m (domains ++ domain ∷ []) new
keys_more m domains domain old new k are of is now = record {
  domains_are = ap (map (λ (x : DomainKeys). x.domain)) now ∙ map-append (λ (x : DomainKeys). x.domain) old (k ∷ [])
      ∙ (λ i. are.domains_are i ++ of i ∷ []);
  each = λ x h. elim (Contains-push_cases old k x (subst (λ ks. Contains ks x) now h)) [
    | inl before ↦ are.each x before
    | inr same ↦ subst (IsDomainKeys m) same is
  ];
}

-- after the last domain these are all
pub keys_all : (m : Meaning) (domains : List (List ℕ)) (all : List DomainKeys) → AreDomains m.config domains → AreKeysOf m domains all
    → AreAllKeys m all
keys_all m domains all are of = record {
  domains = subst (AreDomains m.config) (sym of.domains_are) are;
  each = of.each;
}
