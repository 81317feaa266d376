use Rattle.std.proofs.Common.{◌++◌, ◌∙◌, ap, codes}
use Rattle.json_text.specs.JsonText.{digest_member, number_member, string_member}
use Rattle.change_view.proofs.PieceFacts.{two}
use Rattle.change_view.proofs.change_texts.push_document_members.Goals as goal

pub returns : goal.returns
returns c =
    two c.args.out.now.items (string_member (codes ",\"event\":\"observe\",\"domain\":") c.args.observed.now.domain) _ _ _
    (c.in_ok-push_string.ensures
    ∙ ap (λ t. c.args.out.now.items ++ string_member (codes ",\"event\":\"observe\",\"domain\":") t) c.as_str.ensures.text)
    (two c.push_string.new.out.items (digest_member (codes ",\"document\":") c.args.observed.now.document.0)
    (number_member (codes ",\"sequence\":") c.args.observed.now.sequence) _ _
    c.in_ok-push_digest.ensures c.in_ok-push_optional.ensures)
