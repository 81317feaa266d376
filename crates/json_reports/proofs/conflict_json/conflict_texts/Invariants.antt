use Rattle.std.proofs.Common.{◌≡◌, ◌++◌, drop, map}
use Rattle.bundle_view.specs.Conflicts.{reported_by}
use Rattle.json_reports.specs.ReportJson.{conflict_json}
use Rattle.json_reports.proofs.conflict_json.conflict_texts.Given as goal

abbrev pub invariant-loop-conflict : goal.invariant-loop-conflict
invariant-loop-conflict l =
    l.texts.items ++ map conflict_json (map reported_by (drop l.conflict-index l.conflicts)) ≡ map conflict_json (map reported_by l.conflicts)
