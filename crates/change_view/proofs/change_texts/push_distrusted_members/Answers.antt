use Rattle.std.proofs.Common.{◌++◌, ◌∙◌, ap, codes}
use Rattle.std.proofs.Common.{Some}
use Rattle.json_text.specs.JsonText.{number_member, string_member}
use Rattle.change_view.specs.ChangeTexts.{keys_member}
use Rattle.change_view.proofs.PieceFacts.{two}
use Rattle.change_view.proofs.change_texts.push_distrusted_members.Goals as goal

pub returns : goal.returns
returns c =
    two c.args.out.now.items (string_member (codes ",\"event\":\"distrust\",\"domain\":") c.args.distrusted.now.domain) _ _ _
    (c.in_ok-push_string.ensures
    ∙ ap (λ t. c.args.out.now.items ++ string_member (codes ",\"event\":\"distrust\",\"domain\":") t) c.as_str.ensures.text)
    (two c.push_string.new.out.items (keys_member c.args.distrusted.now.keys.items)
    (number_member (codes ",\"fell\":") (Some c.args.distrusted.now.fell)) _ _
    (c.in_ok-push_keys_member.ensures ∙ ap (λ k. c.push_string.new.out.items ++ keys_member k) c.as_slice.ensures.value)
    c.in_ok-push_optional.ensures)
