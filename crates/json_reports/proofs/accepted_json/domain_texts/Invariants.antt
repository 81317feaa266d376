use Rattle.std.proofs.Common.{take}
use Rattle.std.specs.List.{AllZip}
use Rattle.json_reports.specs.ReportJson.{IsDomainJson}
use Rattle.json_reports.proofs.accepted_json.domain_texts.Given as goal

abbrev pub invariant-loop-domain : goal.invariant-loop-domain
invariant-loop-domain g l = AllZip (IsDomainJson (g.C.Closure.state l.closure).meaning) (take l.domain-index l.domains) l.texts.items
