-- The floors that the domains get.
use Rattle.std.proofs.Common.{◌≡◌, ℕ, List, [], ◌∷◌, ◌++◌, Option, Some, None}
use Rattle.std.proofs.Common.{refl, sym, ap, ◌∙◌, subst, arith, inl, inr, append-nil}
use Rattle.std.proofs.lemmas.List.{map-append, flat_map_more}
use Rattle.std.proofs.lemmas.List.Elements.{Contains-push_cases}
use Rattle.bundle_doc.specs.Bundle.{Bundle}
use Rattle.fed_config.specs.Configuration.{AreDomains, Configuration, IsFloorOf}
use Rattle.fed_config.specs.declared.floor.Floor.{Floor}
use Rattle.receipt_core.specs.Acceptance.{Meaning}
use Rattle.bundle_view.specs.Current.{IsCurrent}
use Rattle.reseeding.specs.Reseeding.{AreRaisedFloors, FlooredDomain, IsRaised, floor_in}
use Rattle.reseeding.specs.Inside.Domains.{AddsFloor, GathersFloors}

-- before the first domain there is no floor
pub floors_none : (m : Meaning) (new : List Floor) → new ≡ [] → GathersFloors m [] new
floors_none m new empty = record { floored = []; domains_are = refl; each = λ f h. absurd (omega (arith, h.1)); now = empty }

-- one more domain's floor was added: the step of the loop in `raised_floors`
pub floors_more : (m : Meaning) (domains : List (List ℕ)) (domain : List ℕ) (old new : List Floor)
    → GathersFloors m domains old → AddsFloor m domain old new → GathersFloors m (domains ++ domain ∷ []) new
floors_more m domains domain old new has adds = record {
  floored = has.floored ++ adds.one ∷ [];
  domains_are = map-append (λ (f : FlooredDomain). f.domain) has.floored (adds.one ∷ []) ∙ (λ i. has.domains_are i ++ adds.domain_is i ∷ []);
  each = λ f h. elim (Contains-push_cases has.floored adds.one f h) [
    | inl old ↦ has.each f old
    | inr e ↦ subst (IsRaised m) e adds.is
  ];
  now = adds.now ∙ ap (λ t. t ++ floor_in adds.one) has.now ∙ flat_map_more floor_in [] has.floored adds.one;
}

-- after the last domain these are all
pub floors_all : (m : Meaning) (domains : List (List ℕ)) (floors : List Floor) → AreDomains m.config domains → GathersFloors m domains floors
    → AreRaisedFloors m floors
floors_all m domains floors are has = record {
  floored = has.floored;
  domains = subst (AreDomains m.config) (sym has.domains_are) are;
  each = has.each;
  are = has.now;
}

-- a domain that gets none adds none
pub adds_no_floor : (m : Meaning) (domain : List ℕ) (floors : List Floor) (floor : Option ℕ) → floor ≡ None
    → IsRaised m (record { domain = domain; floor = floor }) → AddsFloor m domain floors floors
adds_no_floor m domain floors floor none is = record {
  one = record { domain = domain; floor = None };
  domain_is = refl;
  is = subst (λ (n : Option ℕ). IsRaised m (record { domain = domain; floor = n })) none is;
  now = sym (append-nil floors);
}

-- a domain's floor is added
pub adds_floor : (m : Meaning) (domain : List ℕ) (old new : List Floor) (floor : Option ℕ) (n : ℕ) → floor ≡ Some n
    → IsRaised m (record { domain = domain; floor = floor }) → new ≡ old ++ record { domain = domain; sequence = n } ∷ []
    → AddsFloor m domain old new
adds_floor m domain old new floor n some is now = record {
  one = record { domain = domain; floor = Some n };
  domain_is = refl;
  is = subst (λ (n : Option ℕ). IsRaised m (record { domain = domain; floor = n })) some is;
  now = now;
}

-- ---- the floor of a domain

-- with a current document it is the sequence number of that
pub raised_some : (m : Meaning) (domain : List ℕ) (current : Option Bundle) (d : Bundle) (floor : Option ℕ) → current ≡ Some d
    → IsCurrent m domain current → floor ≡ d.rank → IsRaised m (record { domain = domain; floor = floor })
raised_some m domain current d floor some is rank =
    record { current = Some d; is = subst (IsCurrent m domain) some is; raised = rank }

-- without one it is the floor that the domain has
pub raised_none : (m : Meaning) (domain : List ℕ) (current : Option Bundle) (lent : Configuration) (floor : Option ℕ) → current ≡ None
    → IsCurrent m domain current → lent ≡ m.config → IsFloorOf lent domain floor → IsRaised m (record { domain = domain; floor = floor })
raised_none m domain current lent floor none is same has =
    record { current = None; is = subst (IsCurrent m domain) none is; raised = subst (λ c. IsFloorOf c domain floor) same has }
