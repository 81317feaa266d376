use Rattle.std.proofs.Common.{◌++◌, ◌∙◌, ap, codes, rules}
use Rattle.std.specs.Int.{w64}
use Rattle.std.proofs.lemmas.Int.{to_z-of_z}
use Rattle.std.specs.Fmt.{signed_decimal}
use Rattle.hex.specs.Hex.{encode_lower}
use Rattle.status_view.proofs.PieceFacts.{two}
use Rattle.status_warnings.proofs.warning_lines.push_expiry_words.Goals as goal

pub returns : goal.returns
returns c =
    two c.args.out.now.items
    (c.args.domain.now) _ _ _
    (c.in_ok-extend_from_slice.ensures.items
    ∙ ap (λ t. c.args.out.now.items ++ t) (c.as_bytes.ensures.value ∙ c.as_str.ensures.text))
    (two c.extend_from_slice.new.self.items
    (codes " has a certificate that ends at ") _ _ _
    c.in_ok-extend_from_slice-2.ensures.items
    (two c.extend_from_slice-2.new.self.items
    (signed_decimal c.args.at) _ _ _
    (c.in_ok-push_second.ensures
    ∙ ap (λ z. c.extend_from_slice-2.new.self.items ++ signed_decimal z) (to_z-of_z w64 c.args.at (search rules)))
    (two c.push_second.new.out.items
    (codes ", of key ")
    (encode_lower c.args.key.now.0) _ _
    c.in_ok-extend_from_slice-3.ensures.items
    c.in_ok-push_digits.ensures)))
