use Rattle.std.proofs.Common.{◌++◌, ◌∙◌, ap, codes, false}
use Rattle.hex.specs.Hex.{encode_lower}
use Rattle.json_text.specs.JsonText.{number_or_null, parted_texts}
use Rattle.status_view.specs.StatusJson.{key_json}
use Rattle.status_view.proofs.PieceFacts.{two}
use Rattle.status_view.proofs.json_writer.push_bundle.Goals as goal

pub returns : goal.returns
returns c =
    two c.args.out.now.items
    (codes "{\"id\":\"") _ _ _ c.in_ok-extend_from_slice.ensures.items
    (two c.extend_from_slice.new.self.items
    (encode_lower c.args.current.now.id.0) _ _ _ c.in_ok-push_digits.ensures
    (two c.push_digits.new.out.items
    (codes "\",\"sequence\":") _ _ _ c.in_ok-extend_from_slice-2.ensures.items
    (two c.extend_from_slice-2.new.self.items
    (number_or_null c.args.current.now.sequence) _ _ _ c.in_ok-push_number_or_null.ensures
    (two c.push_number_or_null.new.out.items
    (codes ",\"refresh_hint\":") _ _ _ c.in_ok-extend_from_slice-3.ensures.items
    (two c.extend_from_slice-3.new.self.items
    (number_or_null c.args.current.now.refresh_hint) _ _ _ c.in_ok-push_number_or_null-2.ensures
    (two c.push_number_or_null-2.new.out.items
    (codes ",\"keys\":[") _ _ _ c.in_ok-extend_from_slice-4.ensures.items
    (two c.extend_from_slice-4.new.self.items (parted_texts key_json false c.args.current.now.keys.items)
    (codes "]}") _ _
    (c.in_ok-push_keys.ensures
    ∙ ap (λ t. c.extend_from_slice-4.new.self.items ++ t) (ap (parted_texts key_json false) c.as_slice.ensures.value))
    c.in_ok-extend_from_slice-5.ensures.items)))))))
