use Rattle.std.proofs.Common.{◌++◌, ◌∙◌, ap, codes, flat_map}
use Rattle.hex.specs.Hex.{encode_lower}
use Rattle.text_lines.specs.TextLines.{number_or_none}
use Rattle.status_view.specs.StatusLines.{current_key_line}
use Rattle.status_view.proofs.PieceFacts.{two}
use Rattle.status_view.proofs.text_writer.push_bundle.Goals as goal

pub returns : goal.returns
returns c =
    two c.args.out.now.items
    (codes "  current ") _ _ _ c.in_ok-extend_from_slice.ensures.items
    (two c.extend_from_slice.new.self.items
    (encode_lower c.args.current.now.id.0) _ _ _ c.in_ok-push_digits.ensures
    (two c.push_digits.new.out.items
    (codes " sequence ") _ _ _ c.in_ok-extend_from_slice-2.ensures.items
    (two c.extend_from_slice-2.new.self.items
    (number_or_none c.args.current.now.sequence) _ _ _ c.in_ok-push_number_or_none.ensures
    (two c.push_number_or_none.new.out.items
    (codes " refresh-hint ") _ _ _ c.in_ok-extend_from_slice-3.ensures.items
    (two c.extend_from_slice-3.new.self.items
    (number_or_none c.args.current.now.refresh_hint) _ _ _ c.in_ok-push_number_or_none-2.ensures
    (two c.push_number_or_none-2.new.out.items (codes "\n")
    (flat_map current_key_line c.args.current.now.keys.items) _ _ c.in_ok-extend_from_slice-4.ensures.items
    (c.in_ok-push_keys.ensures
    ∙ ap (λ t. c.extend_from_slice-4.new.self.items ++ t) (ap (flat_map current_key_line) c.as_slice.ensures.value))))))))
