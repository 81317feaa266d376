use Rattle.std.proofs.Common.{◌≡◌, ◌++◌, drop, map}
use Rattle.std.specs.List.{flat_map}
use Rattle.bundle_view.specs.Conflicts.{reported_by}
use Rattle.bundle_view.specs.Report.{conflict_line}
use Rattle.bundle_view.proofs.report_writer.push_conflicts.Given as goal

abbrev pub invariant-loop-conflict : goal.invariant-loop-conflict
invariant-loop-conflict l = l.out.items ++ flat_map conflict_line (map reported_by (drop l.conflict-index l.conflicts))
    ≡ l.initial.out.items ++ flat_map conflict_line (map reported_by l.conflicts)
