use Rattle.std.proofs.Common.{◌++◌, codes}
use Rattle.hex.specs.Hex.{encode_lower}
use Rattle.bundle_view.proofs.RisingListFacts.{joined}
use Rattle.fedbundle.proofs.chain_text.push_root.Goals as goal

pub returns : goal.returns
returns c =
    joined c.args.text.now.items (encode_lower c.args.root.0) (codes " configured" ++ codes "\n") _ _ c.in_ok-push_digits.ensures
    (joined c.push_digits.new.out.items (codes " configured") (codes "\n") _ _ c.in_ok-extend_from_slice.ensures.items
    c.in_ok-extend_from_slice-2.ensures.items)
