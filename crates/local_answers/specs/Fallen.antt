-- How many documents of each domain are accepted, and how many are not any more.
use Rattle.std.specs.Prelude.{◌≡◌, ℕ, ◌-◌, ◌^◌, min, List, [], ◌∷◌, ◌++◌, length, map, codes}
use Rattle.std.specs.Prelude.{cond, decimal, nat_le}
use Rattle.std.specs.List.{AllByRecursion}
use Rattle.bundle_doc.specs.Bundle.{Bundle}
use Rattle.fed_config.specs.Configuration.{AreDomains}
use Rattle.receipt_core.specs.Acceptance.{Meaning}
use Rattle.closure_core.specs.AcceptedList.{IsAcceptedList}
use Rattle.local_answers.specs.declared.fallen_counts.DomainCount.{DomainCount}

-- how many documents of the domain are accepted, at most what 64 bits hold
pub record IsAcceptedCount (m : Meaning) (domain : List ℕ) (count : ℕ) : Type 0 where
  pub documents : List Bundle
  pub are : IsAcceptedList m domain documents
  pub is : count ≡ min (length documents) (2 ^ 64 - 1)

abbrev pub IsCountedDomain : Meaning → DomainCount → Type 0
IsCountedDomain m c = IsAcceptedCount m c.domain c.accepted

-- the domains of the configuration, each with its count
pub record AreAcceptedCounts (m : Meaning) (counts : List DomainCount) : Type 0 where
  pub domains : AreDomains m.config (map (λ c. c.domain) counts)
  pub each : AllByRecursion (IsCountedDomain m) counts

abbrev pub fell_line : (domain : List ℕ) → ℕ → List ℕ
fell_line domain count =
    codes "fell " ++ (domain ++ (codes " " ++ (decimal count ++ codes "\n")))

-- a line if there are fewer after than before
abbrev pub fallen_line : (domain : List ℕ) → (before after : ℕ) → List ℕ
fallen_line domain before after =
    cond (nat_le before after) [] (fell_line domain (before - after))

-- the line of a domain, and then those of others
pub record HasFallenLine (m : Meaning) (c : DomainCount) (Others : List ℕ → Type 0)
    (text : List ℕ) : Type 0 where
  pub after : ℕ
  pub counted : IsAcceptedCount m c.domain after
  pub others : List ℕ
  pub are : Others others
  pub is : text ≡ fallen_line c.domain c.accepted after ++ others

-- The text says what fell since the domains had these counts.
abbrev pub SaysFell : Meaning → (before : List DomainCount) → List ℕ → Type 0
SaysFell m [] text = text ≡ []
SaysFell m (c ∷ before) text = HasFallenLine m c (SaysFell m before) text
