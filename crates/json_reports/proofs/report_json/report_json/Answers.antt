use Rattle.std.proofs.Common.{◌++◌, ◌∙◌, ap, map, subst}
use Rattle.fed_config.specs.Configuration.{AreDomains}
use Rattle.bundle_view.specs.Conflicts.{reported_by}
use Rattle.json_reports.specs.ReportJson.{conflict_json, report_counts, report_lists}
use Rattle.json_reports.proofs.report_json.report_json.Goals as goal

pub returns : goal.returns
returns g c =
    let counted = c.in_ok-push_report_counts.ensures in
    let m = (g.C.Closure.state c.args.closure.now).meaning in
    record {
      pending = counted.pending;
      is_pending = counted.is_pending;
      domains = c.domains.result.now;
      are_domains = subst (λ config. AreDomains config c.domains.result.now) c.config.ensures.config c.domains.ensures.all;
      texts = c.in_ok-accepted.accepted.items;
      each = c.in_ok-accepted.ensures;
      conflicts = map reported_by c.in_ok-found.found.items;
      are_conflicts = c.in_ok-found.ensures;
      is = c.in_ok-push_report_lists.ensures
          ∙ (λ i. (counted.now ∙ ap (λ t. t ++ report_counts m counted.pending) c.new-out.ensures.items) i
          ++ report_lists (c.as_slice-2.ensures.value i)
          ((c.as_slice-3.ensures.value ∙ c.in_ok-clashes.ensures
          ∙ ap (λ cs. map conflict_json (map reported_by cs)) c.as_slice.ensures.value) i)
          ((c.as_slice-4.ensures.value ∙ c.in_ok-records.ensures) i));
    }
