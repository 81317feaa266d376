use Rattle.std.proofs.Common.{◌++◌, ◌∙◌, ap, codes}
use Rattle.hex.specs.Hex.{encode_lower}
use Rattle.bundle_doc.specs.Bundle.{Bundle, doc_id_of}
use Rattle.bundle_view.proofs.RisingListFacts.{joined}
use Rattle.text_lines.specs.TextLines.{number_or_none}
use Rattle.fedbundle.proofs.chain_text.push_brought.Goals as goal

pub returns : goal.returns
returns c =
    let r = c.args.receipt.now in
    joined c.args.text.now.items (encode_lower (doc_id_of r.domain r.document)) (codes " sequence " ++ number_or_none r.document.rank) _ _
    (c.in_ok-push_digits.ensures
    ∙ ap (λ d. c.args.text.now.items ++ encode_lower d)
    c.document_id.ensures)
    (joined c.push_digits.new.out.items (codes " sequence ") (number_or_none r.document.rank) _ _ c.in_ok-extend_from_slice.ensures.items
    (c.in_ok-push_number_or_none.ensures
    ∙ ap (λ n. c.extend_from_slice.new.self.items ++ number_or_none n)
    (c.rank.ensures ∙ ap (λ (d : Bundle). d.rank) c.document.ensures)))
