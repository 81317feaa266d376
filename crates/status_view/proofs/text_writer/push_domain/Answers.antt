use Rattle.std.proofs.Common.{◌++◌, ◌∙◌, ap, codes, decimal}
use Rattle.status_view.specs.StatusLines.{current_status_lines}
use Rattle.status_view.proofs.PieceFacts.{two}
use Rattle.status_view.proofs.text_writer.push_domain.Goals as goal

pub returns : goal.returns
returns c =
    two c.args.out.now.items
    (codes "domain ") _ _ _ c.in_ok-extend_from_slice.ensures.items
    (two c.extend_from_slice.new.self.items
    c.args.status.now.domain _ _ _
    (c.in_ok-extend_from_slice-2.ensures.items
    ∙ ap (λ t. c.extend_from_slice.new.self.items ++ t) (c.as_bytes.ensures.value ∙ c.as_str.ensures.text))
    (two c.extend_from_slice-2.new.self.items
    (codes "\n") _ _ _ c.in_ok-extend_from_slice-3.ensures.items
    (two c.extend_from_slice-3.new.self.items
    (current_status_lines c.args.status.now.current) _ _ _ c.in_ok-push_current.ensures
    (two c.push_current.new.out.items
    (codes "  accepted ") _ _ _ c.in_ok-extend_from_slice-4.ensures.items
    (two c.extend_from_slice-4.new.self.items
    (decimal c.args.status.now.accepted) _ _ _ c.in_ok-push_number.ensures
    (two c.push_number.new.out.items
    (codes " conflicts ") _ _ _ c.in_ok-extend_from_slice-5.ensures.items
    (two c.extend_from_slice-5.new.self.items (decimal c.args.status.now.conflicts)
    (codes "\n") _ _ c.in_ok-push_number-2.ensures
    c.in_ok-extend_from_slice-6.ensures.items)))))))
