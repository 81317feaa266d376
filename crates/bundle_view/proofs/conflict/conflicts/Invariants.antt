use Rattle.std.proofs.Common.{map, take}
use Rattle.bundle_view.specs.Conflicts.{reported_by}
use Rattle.bundle_view.specs.Inside.Groups.{AreFoundOf}
use Rattle.bundle_view.proofs.conflict.conflicts.Given as goal

abbrev pub invariant-loop-domain : goal.invariant-loop-domain
invariant-loop-domain g l = AreFoundOf (g.C.Closure.state l.closure).meaning (take l.domain-index l.domain-items) (map reported_by l.found.items)
