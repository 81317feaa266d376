use Rattle.std.proofs.Common.{ap, ◌∙◌}
use Rattle.fed_config.specs.Configuration.{config_id_of}
use Rattle.bundle_view.proofs.ReportFacts.{head_made}
use Rattle.bundle_view.proofs.report_writer.push_head.Goals as goal

pub returns : goal.returns
returns g c = record {
  pending = c.pending_count.result;
  is_pending = c.pending_count.ensures;
  now = head_made (g.C.Closure.state c.args.closure.now).meaning c.pending_count.result c.digest.result.0 c.receipt_count.result _ _ _ _ _ _ _ _
      (c.digest.ensures ∙ ap config_id_of c.config.ensures.config) c.receipt_count.ensures
      c.in_ok-extend_from_slice.ensures.items c.in_ok-push_digits.ensures c.in_ok-extend_from_slice-2.ensures.items c.in_ok-push_number.ensures
      c.in_ok-extend_from_slice-3.ensures.items c.in_ok-push_number-2.ensures c.in_ok-extend_from_slice-4.ensures.items;
}
