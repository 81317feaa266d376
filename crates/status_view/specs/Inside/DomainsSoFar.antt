-- What work over some of the domains has done.
use Rattle.std.specs.Prelude.{◌≡◌, ℕ, List, map, Contains}
use Rattle.fed_config.specs.Configuration.{AreDomains}
use Rattle.receipt_core.specs.Acceptance.{Meaning}
use Rattle.bundle_view.specs.Conflicts.{ReportedConflict}
use Rattle.status_view.specs.declared.status.DomainStatus.{DomainStatus}
use Rattle.status_view.specs.Status.{IsDomainStatus}

-- These are the statuses of the domains.
pub record AreStatusesOf (m : Meaning) (clashes : List ReportedConflict)
    (domains : List (List ℕ)) (statuses : List DomainStatus) : Type 0 where
  pub domains_are : map (λ s. s.domain) statuses ≡ domains
  pub each : (s : DomainStatus) → Contains statuses s → IsDomainStatus m clashes s

-- These are the statuses of all domains of the configuration.
pub record AreAllStatuses (m : Meaning) (clashes : List ReportedConflict)
    (statuses : List DomainStatus) : Type 0 where
  pub are_domains : AreDomains m.config (map (λ s. s.domain) statuses)
  pub each : (s : DomainStatus) → Contains statuses s → IsDomainStatus m clashes s
