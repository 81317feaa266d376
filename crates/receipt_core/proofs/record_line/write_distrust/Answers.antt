use Rattle.std.proofs.Common.{sym, ◌∙◌}
use Rattle.receipt_core.specs.Parts.{distrust_pieces}
use Rattle.receipt_core.proofs.LineFacts.{distrust_line_text, distrust_pushed}
use Rattle.receipt_core.proofs.record_line.write_distrust.Goals as goal

pub returns : goal.returns
returns c =
    distrust_pushed _ _ _ _ _ _ c.digits.result c.as_bytes.result.now c.new-text.ensures.items
    c.in_ok-extend_from_slice.ensures.items c.in_ok-extend_from_slice-2.ensures.items c.in_ok-extend_from_slice-3.ensures.items
    c.in_ok-extend_from_slice-4.ensures.items c.in_ok-extend_from_slice-5.ensures.items
    ∙ (λ i. distrust_pieces (c.digits.ensures.text i) ((c.as_bytes.ensures.value ∙ c.as_str.ensures.text) i))
    ∙ sym (distrust_line_text c.args.distrust.now (record { domain = c.as_str.ensures.valid; key = c.digits.ensures.form }))
