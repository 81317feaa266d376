-- What work over some of the domains has done.
use Rattle.std.specs.Prelude.{◌≡◌, ℕ, List, ◌++◌, map, flat_map, Contains, Option}
use Rattle.fed_config.specs.Configuration.{Configuration, config_text}
use Rattle.fed_config.specs.declared.floor.Floor.{Floor}
use Rattle.fed_config.specs.declared.seed.Seed.{Seed}
use Rattle.receipt_core.specs.Acceptance.{Meaning}
use Rattle.bundle_view.specs.Current.{IsCurrent}
use Rattle.reseeding.specs.Reseeding.{AreCurrentSeeds, FlooredDomain, IsJudged, IsRaised}
use Rattle.reseeding.specs.Reseeding.{JudgedDomain, SeededDomain, floor_in, refusal_line, seed_in}

-- the domain's line was added, if it has one
pub record AddsRefusal (m : Meaning) (allowed : Option (List ℕ)) (domain : List ℕ)
    (old new : List ℕ) : Type 0 where
  pub judged : JudgedDomain
  pub domain_is : judged.domain ≡ domain
  pub is : IsJudged m judged
  pub now : new ≡ old ++ refusal_line allowed judged

-- The lines of these domains were made.
pub record HasRefusals (m : Meaning) (allowed : Option (List ℕ)) (domains : List (List ℕ))
    (text : List ℕ) : Type 0 where
  pub judged : List JudgedDomain
  pub domains_are : map (λ s. s.domain) judged ≡ domains
  pub each : (s : JudgedDomain) → Contains judged s → IsJudged m s
  pub now : text ≡ flat_map (refusal_line allowed) judged

-- the domain's current document was added, if it has one
pub record AddsSeed (m : Meaning) (domain : List ℕ) (old new : List Seed) : Type 0 where
  pub one : SeededDomain
  pub domain_is : one.domain ≡ domain
  pub is : IsCurrent m one.domain one.current
  pub now : new ≡ old ++ seed_in one

-- The current documents of these domains were gathered.
pub record HasSeeds (m : Meaning) (domains : List (List ℕ)) (seeds : List Seed) : Type 0 where
  pub seeded : List SeededDomain
  pub domains_are : map (λ s. s.domain) seeded ≡ domains
  pub each : (s : SeededDomain) → Contains seeded s → IsCurrent m s.domain s.current
  pub now : seeds ≡ flat_map seed_in seeded

-- the domain's floor was added, if it gets one
pub record AddsFloor (m : Meaning) (domain : List ℕ) (old new : List Floor) : Type 0 where
  pub one : FlooredDomain
  pub domain_is : one.domain ≡ domain
  pub is : IsRaised m one
  pub now : new ≡ old ++ floor_in one

-- The floors of these domains were gathered.
pub record GathersFloors (m : Meaning) (domains : List (List ℕ))
    (floors : List Floor) : Type 0 where
  pub floored : List FlooredDomain
  pub domains_are : map (λ f. f.domain) floored ≡ domains
  pub each : (f : FlooredDomain) → Contains floored f → IsRaised m f
  pub now : floors ≡ flat_map floor_in floored

-- the canonical text of a configuration with the same relationships, the current documents as
-- seeds, and these floors
pub record IsWrittenWith (m : Meaning) (floors : List Floor) (text : List ℕ) : Type 0 where
  pub config : Configuration
  pub relationships : config.relationships ≡ m.config.relationships
  pub seeds : AreCurrentSeeds m config.seeds
  pub has : config.floors ≡ floors
  pub written : text ≡ config_text config
