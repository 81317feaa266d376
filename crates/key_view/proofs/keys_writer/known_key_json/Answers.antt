use Rattle.std.proofs.Common.{[], map, ◌++◌, ◌∙◌, ap, codes}
use Rattle.json_text.specs.JsonText.{array_member, digest_member, string_member, truth_member}
use Rattle.key_view.specs.KeysText.{quoted_id}
use Rattle.key_view.proofs.PieceFacts.{seven_pieces}
use Rattle.key_view.proofs.keys_writer.known_key_json.Goals as goal

pub returns : goal.returns
returns c =
    c.new.ensures ∙ seven_pieces [] (digest_member (codes "{\"key\":") c.args.entry.now.key.0) _ _ _ _ _ _ _ _ _ _ _ _ _ (c.in_ok-push_digest.ensures
    ∙ ap (λ t. t ++ digest_member (codes "{\"key\":") c.args.entry.now.key.0) c.new-text.ensures.items)
    (c.in_ok-push_string.ensures ∙ ap (λ t. c.push_digest.new.out.items ++ string_member (codes ",\"domain\":") t) c.as_str.ensures.text)
    c.in_ok-push_parts_json.ensures c.in_ok-push_truth.ensures
    (c.in_ok-push_truth-2.ensures ∙ ap (λ b. c.push_truth.new.out.items ++ truth_member (codes ",\"same_public_key\":") b) c.has_distrusted_key.ensures)
    (c.in_ok-push_bundles_json.ensures ∙ ap (λ ids. c.push_truth-2.new.out.items ++ array_member (codes ",\"bundles\":")
    (map quoted_id ids)) c.as_slice.ensures.value)
    c.in_ok-push_closing.ensures
