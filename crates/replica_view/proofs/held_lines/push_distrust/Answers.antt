use Rattle.std.proofs.Common.{◌∙◌, codes}
use Rattle.hex.specs.Hex.{encode_lower}
use Rattle.replica_view.proofs.MadeLineFacts.{four_parts}
use Rattle.replica_view.proofs.held_lines.push_distrust.Goals as goal

pub returns : goal.returns
returns c =
    four_parts c.args.line.now.items (codes "distrust ") (encode_lower c.args.key.now.0) (codes " domain ") _ _ _ _ _ _
    c.in_ok-extend_from_slice.ensures.items c.in_ok-push_digits.ensures c.in_ok-extend_from_slice-2.ensures.items
    c.in_ok-extend_from_slice-3.ensures.items (c.as_bytes.ensures.value ∙ c.as_str.ensures.text)
