use Rattle.std.proofs.Common.{◌≡◌}
use Rattle.wait_index.specs.Inside.Tally.{net_of, tally_of, marks_capacity}
use Rattle.wait_index.proofs.ReleaseFacts.{ReleasesFrom}
use Rattle.wait_index.proofs.marks.Marks.release.Given as goal

abbrev pub invariant-waits : goal.invariant-waits
invariant-waits l = ReleasesFrom (net_of l.graph) l.label l.link (tally_of l.initial.self) (tally_of l.self)
    × (marks_capacity l.self ≡ marks_capacity l.initial.self)

abbrev pub decreases-waits : goal.decreases-waits
decreases-waits l = l.link
