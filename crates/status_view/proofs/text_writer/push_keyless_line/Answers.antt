use Rattle.std.proofs.Common.{◌++◌, ◌∙◌, ap, codes}
use Rattle.hex.specs.Hex.{encode_lower}
use Rattle.status_view.proofs.PieceFacts.{two}
use Rattle.status_view.proofs.text_writer.push_keyless_line.Goals as goal

pub returns : goal.returns
returns c =
    two c.args.out.now.items
    (codes "warning: the configured bundle ") _ _ _ c.in_ok-extend_from_slice.ensures.items
    (two c.extend_from_slice.new.self.items
    (encode_lower c.args.seed.now.id.0) _ _ _ c.in_ok-push_digits.ensures
    (two c.push_digits.new.out.items
    (codes " of ") _ _ _ c.in_ok-extend_from_slice-2.ensures.items
    (two c.extend_from_slice-2.new.self.items
    c.args.seed.now.domain _ _ _
    (c.in_ok-extend_from_slice-3.ensures.items
    ∙ ap (λ t. c.extend_from_slice-2.new.self.items ++ t) (c.as_bytes.ensures.value ∙ c.as_str.ensures.text))
    (two c.extend_from_slice-3.new.self.items (codes " has no X.509 authority")
    (codes "\n") _ _ c.in_ok-extend_from_slice-4.ensures.items
    c.in_ok-extend_from_slice-5.ensures.items))))
