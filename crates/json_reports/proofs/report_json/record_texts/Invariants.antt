use Rattle.std.proofs.Common.{◌≡◌, ◌++◌, map}
use Rattle.replica_view.specs.HeldJson.{held_record_json}
use Rattle.json_reports.proofs.report_json.record_texts.Given as goal

abbrev pub invariant-loop-domain : goal.invariant-loop-domain
invariant-loop-domain g l = l.texts.items ++ map held_record_json l.domain-iterator ≡ map held_record_json l.initial.domain-iterator
