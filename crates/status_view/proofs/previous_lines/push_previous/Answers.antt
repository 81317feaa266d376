use Rattle.std.proofs.Common.{codes}
use Rattle.hex.specs.Hex.{encode_lower}
use Rattle.text_lines.specs.TextLines.{number_or_none}
use Rattle.status_view.proofs.PieceFacts.{two}
use Rattle.status_view.proofs.previous_lines.push_previous.Goals as goal

pub returns : goal.returns
returns c =
    two c.args.out.now.items
    (codes "previous ") _ _ _ c.in_ok-extend_from_slice.ensures.items
    (two c.extend_from_slice.new.self.items
    (encode_lower c.args.previous.config.0) _ _ _ c.in_ok-push_digits.ensures
    (two c.push_digits.new.out.items
    (codes " used ") _ _ _ c.in_ok-extend_from_slice-2.ensures.items
    (two c.extend_from_slice-2.new.self.items (number_or_none c.args.previous.used)
    (codes "\n") _ _ c.in_ok-push_number_or_none.ensures
    c.in_ok-extend_from_slice-3.ensures.items)))
