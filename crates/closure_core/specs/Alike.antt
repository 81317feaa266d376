-- What is the same at two replicas, whose limits may differ
use Rattle.std.specs.Prelude.{◌≡◌}
use Rattle.fed_config.specs.Configuration.{Configuration}
use Rattle.fed_config.specs.declared.limits.Limits.{Limits}
use Rattle.receipt_core.specs.Acceptance.{Meaning}

-- Both have the same relationships, seeds and floors. How much may be held may differ.
pub record IsSameTrust (one other : Configuration) : Type 0 where
  pub relationships : one.relationships ≡ other.relationships
  pub seeds : one.seeds ≡ other.seeds
  pub floors : one.floors ≡ other.floors

-- the configuration, with these limits
abbrev pub with_limits : Configuration → Limits → Configuration
with_limits c limits = record c { limits = limits }

-- Both hold the same, under the same relationships, seeds and floors. Only their limits may differ.
pub record AreAlike (one other : Meaning) : Type 0 where
  pub trust : IsSameTrust one.config other.config
  pub held : one.held ≡ other.held
  pub records : one.records ≡ other.records
