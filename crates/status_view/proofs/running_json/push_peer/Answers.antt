use Rattle.std.proofs.Common.{◌++◌, ◌∙◌, ap, codes, decimal}
use Rattle.std.specs.Prelude.{string_bytes}
use Rattle.json_text.specs.JsonText.{number_or_null, string_member}
use Rattle.status_view.specs.Running.{code_or_null}
use Rattle.status_view.proofs.PieceFacts.{two}
use Rattle.status_view.proofs.running_json.push_peer.Goals as goal

pub returns : goal.returns
returns c =
    two c.args.out.now.items
    (string_member (codes "{\"peer\":") (string_bytes c.args.peer.now.address)) _ _ _
    (c.in_ok-push_string.ensures
    ∙ ap (λ t. c.args.out.now.items ++ string_member (codes "{\"peer\":") t) c.as_str.ensures.value)
    (two c.push_string.new.out.items
    (codes ",\"ended_well\":") _ _ _ c.in_ok-extend_from_slice.ensures.items
    (two c.extend_from_slice.new.self.items
    (number_or_null c.args.peer.now.ended_well) _ _ _ c.in_ok-push_number_or_null.ensures
    (two c.push_number_or_null.new.out.items
    (codes ",\"fault\":") _ _ _ c.in_ok-extend_from_slice-2.ensures.items
    (two c.extend_from_slice-2.new.self.items
    (code_or_null c.args.peer.now.fault) _ _ _ c.in_ok-push_code_or_null.ensures
    (two c.push_code_or_null.new.out.items
    (codes ",\"receipts\":") _ _ _ c.in_ok-extend_from_slice-3.ensures.items
    (two c.extend_from_slice-3.new.self.items (decimal c.args.peer.now.receipts)
    (codes "}") _ _ c.in_ok-push_number.ensures
    c.in_ok-extend_from_slice-4.ensures.items))))))
