use Rattle.std.proofs.Common.{◌≡◌, ◌++◌, drop, map}
use Rattle.json_reports.specs.ReportJson.{id_json}
use Rattle.json_reports.proofs.conflict_json.id_texts.Given as goal

abbrev pub invariant-loop-id : goal.invariant-loop-id
invariant-loop-id l = l.texts.items ++ map id_json (drop l.id-index l.ids) ≡ map id_json l.ids
