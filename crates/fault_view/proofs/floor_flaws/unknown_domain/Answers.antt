use Rattle.std.proofs.Common.{◌≡◌, ℕ, List, Option, Some, refl, subst, rules}
use Rattle.fed_config.specs.Reading.{NamesDomain}
use Rattle.fed_config.specs.UnknownFloors.{FindsFailing}
use Rattle.fed_config.specs.Written.{Written}
use Rattle.fault_view.proofs.floor_flaws.unknown_domain.Goals as goal

-- the name that was found is not named
not_named : (w : Written) (found : Option (List ℕ)) (name : List ℕ) → found ≡ Some name → FindsFailing (NamesDomain w) w.floors found
    → NamesDomain w name → ⊥
not_named w found name some finds = (subst (FindsFailing (NamesDomain w) w.floors) some finds).fails

pub returns-clause-flaw : goal.returns-clause-flaw
returns-clause-flaw c = (
  search rules,
  refl,
  λ w says. not_named w _ c.in-Ok-Some.name.now (first_of (cc, search rules)) (c.in-Ok-Some.ensures.finds w says),
)
