use Rattle.std.proofs.Common.{map, take}
use Rattle.bundle_view.specs.Conflicts.{reported_by}
use Rattle.status_view.specs.Inside.DomainsSoFar.{AreStatusesOf}
use Rattle.status_view.proofs.domain_standing.domain_statuses.Given as goal

abbrev pub invariant-loop-domain : goal.invariant-loop-domain
invariant-loop-domain g l =
    AreStatusesOf (g.C.Closure.state l.closure).meaning (map reported_by l.clashes) (take l.domain-index l.domain-items) l.statuses.items
