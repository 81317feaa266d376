use Rattle.std.proofs.Common.{◌-◌, length, map}
use Rattle.bundle_view.specs.Conflicts.{reported_by}
use Rattle.bundle_view.specs.Inside.Groups.{SoFar}
use Rattle.bundle_view.proofs.conflict.add_conflicts.Given as goal

abbrev pub invariant-groups : goal.invariant-groups
invariant-groups l = SoFar l.domain l.documents l.start (map reported_by l.initial.found.items) (map reported_by l.found.items)

abbrev pub decreases-groups : goal.decreases-groups
decreases-groups l = length l.documents - l.start
