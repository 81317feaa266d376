use Rattle.std.proofs.Common.{◌≡◌, ◌++◌, drop}
use Rattle.std.specs.List.{flat_map}
use Rattle.bundle_view.specs.Report.{accepted_line}
use Rattle.bundle_view.proofs.report_writer.push_accepted.Given as goal

abbrev pub invariant-loop-listed : goal.invariant-loop-listed
invariant-loop-listed l = l.out.items ++ flat_map (accepted_line l.domain) (drop l.listed-index l.documents)
    ≡ l.initial.out.items ++ flat_map (accepted_line l.domain) l.documents
