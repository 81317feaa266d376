-- The result of work over the domains of a configuration.
use Rattle.std.proofs.Common.{◌≡◌, ℕ, List, [], ◌∷◌, ◌++◌, Option, Some, None}
use Rattle.std.proofs.Common.{true, false, cond, refl, sym, ap, ◌∙◌, subst, arith, inl, inr, append-nil}
use Rattle.std.proofs.lemmas.List.{map-append, flat_map_more}
use Rattle.std.proofs.lemmas.List.Elements.{Contains-push_cases}
use Rattle.bundle_doc.specs.Bundle.{Bundle}
use Rattle.fed_config.specs.Configuration.{AreDomains}
use Rattle.fed_config.specs.declared.seed.Seed.{Seed}
use Rattle.receipt_core.specs.Acceptance.{Meaning}
use Rattle.bundle_view.specs.Current.{IsCurrent}
use Rattle.reseeding.specs.Reseeding.{IsJudged, JudgedDomain, SeededDomain, refusal_line, seed_in, IsRefusalText, AreCurrentSeeds}
use Rattle.reseeding.specs.Reseeding.{IsDoubt, is_allowed, refused_domain_line}
use Rattle.reseeding.specs.declared.doubt.SeedDoubt.{SeedDoubt}
use Rattle.reseeding.specs.Inside.Domains.{AddsRefusal, HasRefusals, AddsSeed, HasSeeds}

-- before the first domain there is no line
pub refusals_none : (m : Meaning) (allowed : Option (List ℕ)) (new : List ℕ) → new ≡ [] → HasRefusals m allowed [] new
refusals_none m allowed new empty = record { judged = []; domains_are = refl; each = λ s h. absurd (omega (arith, h.1)); now = empty }

-- one more domain was judged: the step of the loop in `refusal_text`
pub refusals_more : (m : Meaning) (allowed : Option (List ℕ)) (domains : List (List ℕ)) (domain : List ℕ) (old new : List ℕ)
    → HasRefusals m allowed domains old → AddsRefusal m allowed domain old new → HasRefusals m allowed (domains ++ domain ∷ []) new
refusals_more m allowed domains domain old new has adds = record {
  judged = has.judged ++ adds.judged ∷ [];
  domains_are = map-append (λ (s : JudgedDomain). s.domain) has.judged (adds.judged ∷ []) ∙ (λ i. has.domains_are i ++ adds.domain_is i ∷ []);
  each = λ s h. elim (Contains-push_cases has.judged adds.judged s h) [
    | inl old ↦ has.each s old
    | inr e ↦ subst (IsJudged m) e adds.is
  ];
  now = adds.now ∙ ap (λ t. t ++ refusal_line allowed adds.judged) has.now ∙ flat_map_more (refusal_line allowed) [] has.judged adds.judged;
}

-- after the last domain these are all lines
pub refusals_all : (m : Meaning) (allowed : Option (List ℕ)) (domains : List (List ℕ)) (text : List ℕ) → AreDomains m.config domains
    → HasRefusals m allowed domains text → IsRefusalText m allowed text
refusals_all m allowed domains text are has = record {
  judged = has.judged;
  domains = subst (AreDomains m.config) (sym has.domains_are) are;
  each = has.each;
  is = has.now;
}

-- before the first domain there is no seed
pub seeds_none : (m : Meaning) (new : List Seed) → new ≡ [] → HasSeeds m [] new
seeds_none m new empty = record { seeded = []; domains_are = refl; each = λ s h. absurd (omega (arith, h.1)); now = empty }

-- one more domain's document was added: the step of the loop in `current_seeds`
pub seeds_more : (m : Meaning) (domains : List (List ℕ)) (domain : List ℕ) (old new : List Seed)
    → HasSeeds m domains old → AddsSeed m domain old new → HasSeeds m (domains ++ domain ∷ []) new
seeds_more m domains domain old new has adds = record {
  seeded = has.seeded ++ adds.one ∷ [];
  domains_are = map-append (λ (s : SeededDomain). s.domain) has.seeded (adds.one ∷ []) ∙ (λ i. has.domains_are i ++ adds.domain_is i ∷ []);
  each = λ s h. elim (Contains-push_cases has.seeded adds.one s h) [
    | inl old ↦ has.each s old
    | inr e ↦ subst (λ (z : SeededDomain). IsCurrent m z.domain z.current) e adds.is
  ];
  now = adds.now ∙ ap (λ t. t ++ seed_in adds.one) has.now ∙ flat_map_more seed_in [] has.seeded adds.one;
}

-- a domain without a current document adds none
pub adds_none : (m : Meaning) (domain : List ℕ) (seeds : List Seed) (current : Option Bundle) → current ≡ None → IsCurrent m domain current
    → AddsSeed m domain seeds seeds
adds_none m domain seeds current none is = record {
  one = record { domain = domain; current = None };
  domain_is = refl;
  is = subst (IsCurrent m domain) none is;
  now = sym (append-nil seeds);
}

-- a domain's current document is added
pub adds_one : (m : Meaning) (domain : List ℕ) (old new : List Seed) (current : Option Bundle) (d : Bundle) → current ≡ Some d
    → IsCurrent m domain current → new ≡ old ++ record { domain = domain; document = d } ∷ [] → AddsSeed m domain old new
adds_one m domain old new current d some is now = record {
  one = record { domain = domain; current = Some d };
  domain_is = refl;
  is = subst (IsCurrent m domain) some is;
  now = now;
}

-- after the last domain these are all
pub seeds_all : (m : Meaning) (domains : List (List ℕ)) (seeds : List Seed) → AreDomains m.config domains → HasSeeds m domains seeds
    → AreCurrentSeeds m seeds
seeds_all m domains seeds are has = record {
  seeded = has.seeded;
  domains = subst (AreDomains m.config) (sym has.domains_are) are;
  each = has.each;
  are = has.now;
}

-- ---- one domain

-- a domain without a current document has no line
pub refuses_none : (m : Meaning) (allowed : Option (List ℕ)) (domain text : List ℕ) (current : Option Bundle) → current ≡ None
    → IsCurrent m domain current → AddsRefusal m allowed domain text text
refuses_none m allowed domain text current none is = record {
  judged = record { domain = domain; current = None; doubt = None };
  domain_is = refl;
  is = record { current = subst (IsCurrent m domain) none is; doubt = refl };
  now = sym (append-nil text);
}

-- nor has one without a doubt about its current document
pub refuses_sound : (m : Meaning) (allowed : Option (List ℕ)) (domain text : List ℕ) (current : Option Bundle) (d : Bundle)
    (doubt : Option SeedDoubt) → current ≡ Some d → IsCurrent m domain current → doubt ≡ None → IsDoubt m domain d doubt
    → AddsRefusal m allowed domain text text
refuses_sound m allowed domain text current d doubt some is none sound = record {
  judged = record { domain = domain; current = Some d; doubt = None };
  domain_is = refl;
  is = record { current = subst (IsCurrent m domain) some is; doubt = subst (IsDoubt m domain d) none sound };
  now = sym (append-nil text);
}

-- nor has the allowed one
pub refuses_allowed : (m : Meaning) (allowed : Option (List ℕ)) (domain text : List ℕ) (current : Option Bundle) (d : Bundle)
    (doubt : Option SeedDoubt) (why : SeedDoubt) → current ≡ Some d → IsCurrent m domain current → doubt ≡ Some why
    → IsDoubt m domain d doubt → is_allowed allowed domain ≡ true → AddsRefusal m allowed domain text text
refuses_allowed m allowed domain text current d doubt why some is doubted placed passes = record {
  judged = record { domain = domain; current = Some d; doubt = Some why };
  domain_is = refl;
  is = record { current = subst (IsCurrent m domain) some is; doubt = subst (IsDoubt m domain d) doubted placed };
  now = sym (append-nil text) ∙ ap (λ b. text ++ cond b [] (refused_domain_line domain why)) (sym passes);
}

-- each other one has its line
pub refuses_line : (m : Meaning) (allowed : Option (List ℕ)) (domain old new : List ℕ) (current : Option Bundle) (d : Bundle)
    (doubt : Option SeedDoubt) (why : SeedDoubt) → current ≡ Some d → IsCurrent m domain current → doubt ≡ Some why
    → IsDoubt m domain d doubt → is_allowed allowed domain ≡ false → new ≡ old ++ refused_domain_line domain why
    → AddsRefusal m allowed domain old new
refuses_line m allowed domain old new current d doubt why some is doubted placed stays now = record {
  judged = record { domain = domain; current = Some d; doubt = Some why };
  domain_is = refl;
  is = record { current = subst (IsCurrent m domain) some is; doubt = subst (IsDoubt m domain d) doubted placed };
  now = now ∙ ap (λ b. old ++ cond b [] (refused_domain_line domain why)) (sym stays);
}
