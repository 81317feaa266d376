-- Floors of which none is lower than before.
use Rattle.std.specs.Prelude.{◌≡◌, ◌≤◌, List, Contains}
use Rattle.fed_config.specs.declared.floor.Floor.{Floor}

-- one of these floors is that of the same domain, and it is not lower
pub record HasNoLower (floors : List Floor) (f : Floor) : Type 0 where
  pub floor : Floor
  pub has : Contains floors floor
  pub of_domain : floor.domain ≡ f.domain
  pub no_lower : f.sequence ≤ floor.sequence
