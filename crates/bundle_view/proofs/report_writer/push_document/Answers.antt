use Rattle.std.proofs.Common.{◌∙◌, ap, sym, Some, None}
use Rattle.bundle_doc.specs.Bundle.{Bundle}
use Rattle.bundle_view.proofs.ReportFacts.{document_made}
use Rattle.bundle_view.proofs.report_writer.push_document.Goals as goal

pub returns-in_ok-push_number-in-Some : goal.returns-in_ok-push_number-in-Some
returns-in_ok-push_number-in-Some c =
    document_made c.args.domain.now c.args.listed.now c.id.result.0 (Some c.in-Some.sequence) _ _ _ _ c.id.ensures
    (sym c.in-Some.is ∙ c.rank.ensures ∙ ap (λ (d : Bundle). d.rank) c.document.ensures)
    c.in_ok-push_digits.ensures c.in_ok-extend_from_slice.ensures.items c.in_ok-push_number-in-Some.ensures

pub returns-in_ok-extend_from_slice-in-None : goal.returns-in_ok-extend_from_slice-in-None
returns-in_ok-extend_from_slice-in-None c =
    document_made c.args.domain.now c.args.listed.now c.id.result.0 None _ _ _ _ c.id.ensures
    (sym c.in-None.is ∙ c.rank.ensures ∙ ap (λ (d : Bundle). d.rank) c.document.ensures)
    c.in_ok-push_digits.ensures c.in_ok-extend_from_slice.ensures.items c.in_ok-extend_from_slice-in-None.ensures.items
