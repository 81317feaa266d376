use Rattle.std.proofs.Common.{codes}
use Rattle.json_text.specs.JsonText.{array_member}
use Rattle.json_text.proofs.PartFacts.{one_text}
use Rattle.json_reports.specs.ReportJson.{report_lists}
use Rattle.json_reports.proofs.report_json.push_report_lists.Goals as goal

pub returns : goal.returns
unfolding report_lists
returns c =
    one_text c.args.out.now.items (array_member (codes ",\"domains\":") c.args.domains.now) _ _ _ c.in_ok-push_array.ensures
    (one_text c.push_array.new.out.items (array_member (codes ",\"conflicts\":") c.args.conflicts.now) _ _ _ c.in_ok-push_array-2.ensures
    (one_text c.push_array-2.new.out.items (array_member (codes ",\"records\":") c.args.records.now) (codes "}\n") _ _
    c.in_ok-push_array-3.ensures c.in_ok-extend_from_slice.ensures.items))
