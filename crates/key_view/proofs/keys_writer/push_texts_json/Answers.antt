use Rattle.std.proofs.Common.{◌++◌, ◌∙◌, ap, codes}
use Rattle.json_text.specs.JsonText.{string_member}
use Rattle.key_view.proofs.PieceFacts.{three_pieces}
use Rattle.key_view.proofs.keys_writer.push_texts_json.Goals as goal

pub returns : goal.returns
returns c =
    three_pieces _ _ _ _ _ _ _
    (c.in_ok-push_string.ensures ∙ ap (λ t. c.args.out.now.items ++ string_member (codes ",\"valid_from\":") t) c.as_str.ensures.value)
    (c.in_ok-push_string-2.ensures ∙ ap (λ t. c.push_string.new.out.items ++ string_member (codes ",\"valid_until\":") t) c.as_str-2.ensures.value)
    c.in_ok-push_subject_json.ensures
