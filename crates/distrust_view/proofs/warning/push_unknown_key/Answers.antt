use Rattle.std.proofs.Common.{◌++◌, ◌∙◌, ap, codes}
use Rattle.hex.specs.Hex.{encode_lower}
use Rattle.bundle_view.proofs.RisingListFacts.{joined}
use Rattle.distrust_view.proofs.warning.push_unknown_key.Goals as goal

pub returns : goal.returns
returns c =
    joined c.args.out.now.items (codes "warning: no bundle of ")
    (c.args.domain.now ++ (codes " that is held lists the key " ++ (encode_lower c.args.key.now.0 ++ codes "\n")))
    _ _ c.in_ok-extend_from_slice.ensures.items
    (joined c.extend_from_slice.new.self.items c.args.domain.now
    (codes " that is held lists the key " ++ (encode_lower c.args.key.now.0 ++ codes "\n")) _ _
    (c.in_ok-extend_from_slice-2.ensures.items
    ∙ ap (λ t. c.extend_from_slice.new.self.items ++ t) (c.as_bytes.ensures.value ∙ c.as_str.ensures.text))
    (joined c.extend_from_slice-2.new.self.items (codes " that is held lists the key ")
    (encode_lower c.args.key.now.0 ++ codes "\n") _ _ c.in_ok-extend_from_slice-3.ensures.items
    (joined c.extend_from_slice-3.new.self.items (encode_lower c.args.key.now.0) (codes "\n") _ _
    c.in_ok-push_digits.ensures c.in_ok-extend_from_slice-4.ensures.items)))
