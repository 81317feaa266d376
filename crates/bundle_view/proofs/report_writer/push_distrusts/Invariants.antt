use Rattle.std.proofs.Common.{◌≡◌, ◌++◌}
use Rattle.std.specs.List.{flat_map}
use Rattle.bundle_view.specs.Report.{reported_distrust_line, records_of}
use Rattle.bundle_view.proofs.report_writer.push_distrusts.Given as goal

abbrev pub invariant-loop-of : goal.invariant-loop-of
invariant-loop-of g l = l.out.items ++ flat_map reported_distrust_line (records_of l.domain l.of-iterator)
    ≡ l.initial.out.items ++ flat_map reported_distrust_line (records_of l.domain l.initial.of-iterator)
