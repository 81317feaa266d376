use Rattle.std.proofs.Common.{◌++◌, ◌∙◌, ap, codes}
use Rattle.std.specs.Prelude.{string_bytes}
use Rattle.json_text.specs.JsonText.{string_member}
use Rattle.status_view.specs.Changing.{asked_or_null}
use Rattle.status_view.proofs.PieceFacts.{two}
use Rattle.status_view.proofs.previous_json.push_asked.Goals as goal

pub returns : goal.returns
returns c =
    two c.args.out.now.items
    (string_member (codes "{\"peer\":") (string_bytes c.args.peer.now.address)) _ _ _
    (c.in_ok-push_string.ensures
    ∙ ap (λ t. c.args.out.now.items ++ string_member (codes "{\"peer\":") t) c.as_str.ensures.value)
    (two c.push_string.new.out.items
    (codes ",\"asked\":") _ _ _ c.in_ok-extend_from_slice.ensures.items
    (two c.extend_from_slice.new.self.items (asked_or_null c.args.peer.now.asked)
    (codes "}") _ _
    (c.in_ok-extend_from_slice-2.ensures.items
    ∙ ap (λ t. c.extend_from_slice.new.self.items ++ t) (c.as_bytes.ensures.value ∙ c.asked_or_null.ensures))
    c.in_ok-extend_from_slice-3.ensures.items))
