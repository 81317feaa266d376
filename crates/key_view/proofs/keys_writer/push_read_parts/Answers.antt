use Rattle.std.proofs.Common.{◌++◌, ◌∙◌, ap, codes}
use Rattle.key_view.specs.KeysText.{labelled}
use Rattle.key_view.proofs.PieceFacts.{three_pieces}
use Rattle.key_view.proofs.keys_writer.push_read_parts.Goals as goal

pub returns : goal.returns
returns c =
    three_pieces _ _ _ _ _ _ _ c.in_ok-push_id.ensures
    (c.in_ok-push_labelled.ensures ∙ ap (λ t. c.push_id.new.out.items ++ labelled (codes " from ") t) c.as_bytes.ensures.value)
    (c.in_ok-push_labelled-2.ensures ∙ ap (λ t. c.push_labelled.new.out.items ++ labelled (codes " to ") t) c.as_bytes-2.ensures.value)
