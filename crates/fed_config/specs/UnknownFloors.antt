-- The first floor whose name is not that of one of the configuration's domains.
use Rattle.std.specs.Prelude.{◌≡◌, ◌≢◌, ℕ, ⊤, List, ◌∷◌, ◌++◌, Option, Some, None}
use Rattle.std.specs.List.{AllByRecursion}
use Rattle.serde_json.specs.Data.{Data}
use Rattle.spiffe_name.specs.TrustDomain.{IsDomainText}
use Rattle.fed_config.specs.Reading.{HasName, NamesDomain}
use Rattle.fed_config.specs.Written.{Written, SaysWritten}
use Rattle.fed_config.specs.declared.floor.Floor.{Floor}
use Rattle.fed_config.specs.declared.error.ConfigError.{ConfigError}
use Rattle.fed_config.specs.declared.error.ConfigError.TheVariants.{Shape, BadName, NoMemory}

-- The name is that of one of the floors and fails, and the names of those before it pass.
pub record IsFirstFailing (Passes : List ℕ → Type 0) (floors : List Floor)
    (name : List ℕ) : Type 0 where
  pub before : List Floor
  pub floor : Floor
  pub after : List Floor
  pub are : floors ≡ before ++ floor ∷ after
  pub of_name : floor.domain ≡ name
  pub fails : Passes name → ⊥
  pub passed : AllByRecursion (λ f. Passes f.domain) before

-- the first name that fails, or none: then each passes
abbrev pub FindsFailing : (List ℕ → Type 0) → List Floor → Option (List ℕ) → Type 0
FindsFailing Passes floors None = AllByRecursion (λ f. Passes f.domain) floors
FindsFailing Passes floors (Some name) = IsFirstFailing Passes floors name

-- the value says something, and of its floors this is the first one of an unknown domain
pub record FindsUnknown (tree : Data) (found : Option (List ℕ)) : Type 0 where
  pub written : Written
  pub says : SaysWritten tree written
  pub finds : (w : Written) → SaysWritten tree w → FindsFailing (NamesDomain w) w.floors found

-- the names of the relationships and of the seeds, without which the domains are not known
pub record HasDomainNames (w : Written) : Type 0 where
  pub relationships : AllByRecursion HasName w.relationships
  pub seeds : AllByRecursion (λ t. IsDomainText t.domain) w.seeds

-- the domains are not known
abbrev pub RefusesDomains : Data → ConfigError → Type 0
RefusesDomains tree Shape = (w : Written) → SaysWritten tree w → ⊥
RefusesDomains tree BadName = (w : Written) × SaysWritten tree w × (HasDomainNames w → ⊥)
RefusesDomains tree NoMemory = ⊤
RefusesDomains tree e = ⊥
