use Rattle.std.proofs.Common.{◌++◌, ◌∙◌, ap, codes}
use Rattle.bundle_view.proofs.RisingListFacts.{joined}
use Rattle.distrust_view.proofs.keys.push_locked_out_line.Goals as goal

pub returns : goal.returns
returns c =
    joined c.args.out.now.items (codes "locked-out ") (c.args.domain.now ++ codes "\n") _ _ c.in_ok-extend_from_slice.ensures.items
    (joined c.extend_from_slice.new.self.items c.args.domain.now (codes "\n") _ _
    (c.in_ok-extend_from_slice-2.ensures.items
    ∙ ap (λ t. c.extend_from_slice.new.self.items ++ t) (c.as_bytes.ensures.value ∙ c.as_str.ensures.text))
    c.in_ok-extend_from_slice-3.ensures.items)
