use Rattle.std.proofs.Common.{◌++◌, ◌∙◌, ap, codes}
use Rattle.key_view.specs.KeysText.{labelled}
use Rattle.key_view.proofs.PieceFacts.{four_pieces}
use Rattle.key_view.proofs.keys_writer.push_same_key_line.Goals as goal

pub returns : goal.returns
returns c = four_pieces _ _ _ _ _ _ _ _ _ c.in_ok-push_id.ensures (c.in_ok-push_labelled.ensures
    ∙ ap (λ t. c.push_id.new.out.items ++ labelled (codes " of ") t) (c.as_bytes.ensures.value
    ∙ c.as_str.ensures.text)) c.in_ok-push_id-2.ensures c.in_ok-push_closing.ensures
