use Rattle.std.proofs.Common.{ap, sym, ◌∙◌}
use Rattle.hex.specs.Hex.{encode_lower}
use Rattle.bundle_doc.specs.Bundle.{canonical_text}
use Rattle.receipt_core.specs.Parts.{pieces}
use Rattle.receipt_core.proofs.LineFacts.{line_text, pieces_pushed}
use Rattle.receipt_core.proofs.line.write_receipt.Goals as goal

pub returns : goal.returns
returns c =
    pieces_pushed _ _ _ _ _ _ _ _ _ _ _ _ c.canonical.result.now c.as_bytes.result.now c.as_bytes-2.result.now c.digits.result c.digits-2.result
    c.in_ok-text.ensures.items
    c.in_ok-extend_from_slice.ensures.items c.in_ok-extend_from_slice-2.ensures.items
    c.in_ok-extend_from_slice-3.ensures.items c.in_ok-extend_from_slice-4.ensures.items
    c.in_ok-extend_from_slice-5.ensures.items c.in_ok-extend_from_slice-6.ensures.items
    c.in_ok-extend_from_slice-7.ensures.items c.in_ok-extend_from_slice-8.ensures.items
    c.in_ok-extend_from_slice-9.ensures.items c.in_ok-extend_from_slice-10.ensures.items c.in_ok-extend_from_slice-11.ensures.items
    ∙ (λ i. pieces ((c.canonical.ensures.text ∙ ap canonical_text c.document.ensures) i)
    ((c.as_bytes.ensures.value ∙ c.as_str.ensures.text ∙ c.domain.ensures.domain) i)
    ((c.as_bytes-2.ensures.value ∙ c.as_str-2.ensures.text ∙ ap (λ id. id.text) c.endpoint.ensures) i)
    ((c.digits.ensures.text ∙ ap (λ k. encode_lower k.0) c.key.ensures) i) ((c.digits-2.ensures.text ∙ ap (λ k. encode_lower k.0) c.voucher.ensures) i))
    ∙ sym (line_text c.args.receipt.now c.domain.ensures.form)
