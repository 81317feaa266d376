use Rattle.std.proofs.Common.{◌++◌, ◌∙◌, ap, codes, decimal}
use Rattle.status_warnings.specs.WarningLines.{held_words}
use Rattle.status_view.proofs.PieceFacts.{two}
use Rattle.status_warnings.proofs.warning_lines.push_stock_words.Goals as goal

pub returns : goal.returns
returns c =
    two c.args.out.now.items
    (decimal c.args.held) _ _ _
    c.in_ok-push_number.ensures
    (two c.push_number.new.out.items
    (codes " of ") _ _ _
    c.in_ok-extend_from_slice.ensures.items
    (two c.extend_from_slice.new.self.items
    (decimal c.args.most)
    (held_words c.args.stock) _ _
    c.in_ok-push_number-2.ensures
    (c.in_ok-extend_from_slice-2.ensures.items
    ∙ ap (λ t. c.push_number-2.new.out.items ++ t) (c.as_bytes.ensures.value ∙ c.held_words.ensures))))
