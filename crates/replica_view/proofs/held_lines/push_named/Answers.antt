use Rattle.std.proofs.Common.{◌++◌, ◌∙◌, ap, codes}
use Rattle.hex.specs.Hex.{encode_lower}
use Rattle.receipt_core.specs.Receipt.{receipt_id_of}
use Rattle.replica_view.proofs.MadeLineFacts.{four_parts}
use Rattle.replica_view.proofs.held_lines.push_named.Goals as goal

pub returns : goal.returns
returns c =
    four_parts c.args.line.now.items (codes "receipt ") (encode_lower (receipt_id_of c.args.receipt.now)) (codes " domain ") _ _ _ _ _ _
    c.in_ok-extend_from_slice.ensures.items
    (c.in_ok-push_digits.ensures ∙ ap (λ d. c.extend_from_slice.new.self.items ++ encode_lower d) c.id.ensures)
    c.in_ok-extend_from_slice-2.ensures.items c.in_ok-extend_from_slice-3.ensures.items
    (c.as_bytes.ensures.value ∙ c.as_str.ensures.text ∙ c.domain.ensures.domain)
