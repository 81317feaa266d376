use Rattle.std.proofs.Common.{◌++◌, ◌∙◌, ap, codes, length, Some}
use Rattle.fed_config.specs.Configuration.{config_id_of}
use Rattle.json_text.specs.JsonText.{digest_member, number_member}
use Rattle.json_text.proofs.PartFacts.{one_text}
use Rattle.json_reports.specs.ReportJson.{report_counts}
use Rattle.json_reports.proofs.report_json.push_report_counts.Goals as goal

pub returns : goal.returns
unfolding report_counts
returns g c =
    let m = (g.C.Closure.state c.args.closure.now).meaning in
    record {
      pending = c.pending_count.result;
      is_pending = c.pending_count.ensures;
      now = one_text c.args.out.now.items (digest_member (codes "{\"config\":") (config_id_of m.config)) _ _ _
          (c.in_ok-push_digest.ensures
          ∙ ap (λ d. c.args.out.now.items ++ digest_member (codes "{\"config\":") d) (c.digest.ensures ∙ ap config_id_of c.config.ensures.config))
          (one_text c.push_digest.new.out.items (number_member (codes ",\"receipts\":") (Some (length m.held)))
          (number_member (codes ",\"pending\":") (Some c.pending_count.result)) _ _
          (c.in_ok-push_optional.ensures
          ∙ ap (λ n. c.push_digest.new.out.items ++ number_member (codes ",\"receipts\":") (Some n)) c.receipt_count.ensures)
          c.in_ok-push_optional-2.ensures);
    }
