use Rattle.std.proofs.Common.{◌∙◌, ap, length}
use Rattle.bundle_doc.specs.Bundle.{Bundle}
use Rattle.bundle_view.proofs.ReportFacts.{accepted_made}
use Rattle.bundle_view.proofs.report_writer.push_accepted_line.Goals as goal

pub returns : goal.returns
returns c =
    accepted_made c.args.domain.now c.args.listed.now (length c.authorities.result.now) _ _ _ _ _ _
    (ap length c.authorities.ensures ∙ ap (λ (d : Bundle). length d.authorities) c.document.ensures)
    c.in_ok-extend_from_slice.ensures.items c.in_ok-push_document.ensures c.in_ok-extend_from_slice-2.ensures.items
    c.in_ok-push_number.ensures c.in_ok-extend_from_slice-3.ensures.items
