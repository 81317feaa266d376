use Rattle.std.proofs.Common.{◌≡◌, ◌++◌, drop}
use Rattle.std.specs.List.{flat_map}
use Rattle.bundle_view.specs.Report.{id_text}
use Rattle.bundle_view.proofs.report_writer.push_ids.Given as goal

abbrev pub invariant-loop-id : goal.invariant-loop-id
invariant-loop-id l = l.out.items ++ flat_map (id_text) (drop l.id-index l.ids) ≡ l.initial.out.items ++ flat_map (id_text) l.ids
