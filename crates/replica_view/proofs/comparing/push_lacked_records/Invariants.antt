use Rattle.std.specs.Prelude.{Contains}
use Rattle.replica_view.specs.HeldLines.{ShowsRecord}
use Rattle.replica_view.proofs.MadeLineFacts.{LinesSoFar}
use Rattle.replica_view.proofs.comparing.push_lacked_records.Given as goal

abbrev pub invariant-loop-domain : goal.invariant-loop-domain
invariant-loop-domain g l = LinesSoFar (Contains (g.C.Closure.state l.other).meaning.records) (ShowsRecord l.mark)
    l.initial.domain-iterator l.domain-iterator l.initial.lines.items l.lines.items
