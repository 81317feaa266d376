use Rattle.std.proofs.Common.{◌++◌, ◌∙◌, ap, codes}
use Rattle.key_view.specs.KeysText.{labelled, yes_or_no, bundles_text}
use Rattle.key_view.proofs.PieceFacts.{seven_pieces}
use Rattle.key_view.proofs.keys_writer.push_key_line.Goals as goal

pub returns : goal.returns
returns c =
    seven_pieces _ _ _ _ _ _ _ _ _ _ _ _ _ _ _ c.in_ok-push_id.ensures
    (c.in_ok-push_labelled.ensures ∙ ap (λ t. c.push_id.new.out.items ++ labelled (codes " domain ") t) (c.as_bytes.ensures.value ∙ c.as_str.ensures.text))
    c.in_ok-push_parts.ensures c.in_ok-push_yes_or_no.ensures
    (c.in_ok-push_yes_or_no-2.ensures ∙ ap (λ b. c.push_yes_or_no.new.out.items ++ labelled (codes " same-public-key ")
    (yes_or_no b)) c.has_distrusted_key.ensures)
    (c.in_ok-push_bundles.ensures ∙ ap (λ ids. c.push_yes_or_no-2.new.out.items ++ bundles_text ids) c.as_slice.ensures.value)
    c.in_ok-push_subject_end.ensures
