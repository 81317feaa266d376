use Rattle.std.proofs.Common.{◌≡◌, ◌++◌, map}
use Rattle.json_reports.specs.ReportJson.{accepted_json}
use Rattle.json_reports.proofs.accepted_json.accepted_texts.Given as goal

abbrev pub invariant-loop-document : goal.invariant-loop-document
invariant-loop-document g l =
    l.texts.items ++ map (accepted_json l.domain) l.document-iterator ≡ map (accepted_json l.domain) l.initial.document-iterator
