use Rattle.std.proofs.Common.{◌++◌, ◌∙◌, ap, codes}
use Rattle.hex.specs.Hex.{encode_lower}
use Rattle.status_view.proofs.PieceFacts.{two}
use Rattle.status_warnings.proofs.warning_lines.push_same_key_words.Goals as goal

pub returns : goal.returns
returns c =
    two c.args.out.now.items
    (c.args.domain.now) _ _ _
    (c.in_ok-extend_from_slice.ensures.items
    ∙ ap (λ t. c.args.out.now.items ++ t) (c.as_bytes.ensures.value ∙ c.as_str.ensures.text))
    (two c.extend_from_slice.new.self.items
    (codes " accepts key ") _ _ _
    c.in_ok-extend_from_slice-2.ensures.items
    (two c.extend_from_slice-2.new.self.items
    (encode_lower c.args.key.now.0)
    (codes ", which has the public key of a distrusted key") _ _
    c.in_ok-push_digits.ensures
    c.in_ok-extend_from_slice-3.ensures.items))
