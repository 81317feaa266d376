-- What work over some of the domains has done
use Rattle.std.specs.Prelude.{◌≡◌, ℕ, List, map, Contains}
use Rattle.receipt_core.specs.Acceptance.{Meaning}
use Rattle.key_view.specs.declared.key_listing.DomainKeys.{DomainKeys}
use Rattle.key_view.specs.KeyEntries.{IsDomainKeys}

-- These are the keys of the domains.
pub record AreKeysOf (m : Meaning) (domains : List (List ℕ)) (all : List DomainKeys)
    : Type 0 where
  pub domains_are : map (λ k. k.domain) all ≡ domains
  pub each : (k : DomainKeys) → Contains all k → IsDomainKeys m k
