use Rattle.std.proofs.Common.{◌++◌, ◌∙◌, ap, codes}
use Rattle.hex.specs.Hex.{encode_lower}
use Rattle.status_view.proofs.PieceFacts.{two}
use Rattle.status_view.proofs.text_writer.push_listed_key.Goals as goal

pub returns : goal.returns
returns c =
    two c.args.out.now.items
    (codes "warning: the current bundle of ") _ _ _ c.in_ok-extend_from_slice.ensures.items
    (two c.extend_from_slice.new.self.items
    c.args.domain.now _ _ _
    (c.in_ok-extend_from_slice-2.ensures.items
    ∙ ap (λ t. c.extend_from_slice.new.self.items ++ t) (c.as_bytes.ensures.value ∙ c.as_str.ensures.text))
    (two c.extend_from_slice-2.new.self.items
    (codes " lists the distrusted key ") _ _ _ c.in_ok-extend_from_slice-3.ensures.items
    (two c.extend_from_slice-3.new.self.items (encode_lower c.args.key.now.0)
    (codes "\n") _ _ c.in_ok-push_digits.ensures
    c.in_ok-extend_from_slice-4.ensures.items)))
