use Rattle.std.proofs.Common.{◌++◌, ◌∙◌, ap, codes, decimal}
use Rattle.status_view.proofs.PieceFacts.{two}
use Rattle.status_view.proofs.text_writer.push_held.Goals as goal

pub returns : goal.returns
returns c =
    two c.args.out.now.items
    (codes "warning: of ") _ _ _ c.in_ok-extend_from_slice.ensures.items
    (two c.extend_from_slice.new.self.items
    (decimal c.args.limit) _ _ _ c.in_ok-push_number.ensures
    (two c.push_number.new.out.items
    c.args.what.now _ _ _
    (c.in_ok-extend_from_slice-2.ensures.items
    ∙ ap (λ t. c.push_number.new.out.items ++ t) c.as_bytes.ensures.value)
    (two c.extend_from_slice-2.new.self.items
    (codes " held: ") _ _ _ c.in_ok-extend_from_slice-3.ensures.items
    (two c.extend_from_slice-3.new.self.items (decimal c.args.count)
    (codes "\n") _ _ c.in_ok-push_number-2.ensures
    c.in_ok-extend_from_slice-4.ensures.items))))
