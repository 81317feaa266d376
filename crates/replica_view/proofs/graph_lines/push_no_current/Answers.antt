use Rattle.std.proofs.Common.{◌++◌, ◌∙◌, ap, codes}
use Rattle.json_text.proofs.PartFacts.{one_text}
use Rattle.replica_view.proofs.graph_lines.push_no_current.Goals as goal

pub returns : goal.returns
returns c =
    one_text c.args.line.now.items (codes "// no current document of ") c.args.domain.now _ _ c.in_ok-extend_from_slice.ensures.items
    (c.in_ok-extend_from_slice-2.ensures.items
    ∙ ap (λ t. c.extend_from_slice.new.self.items ++ t) (c.as_bytes.ensures.value ∙ c.as_str.ensures.text))
