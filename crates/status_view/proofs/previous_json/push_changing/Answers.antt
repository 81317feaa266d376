use Rattle.std.proofs.Common.{codes, false}
use Rattle.hex.specs.Hex.{encode_lower}
use Rattle.json_text.specs.JsonText.{number_or_null, parted_texts}
use Rattle.status_view.specs.Changing.{asked_json}
use Rattle.status_view.proofs.PieceFacts.{two}
use Rattle.status_view.proofs.previous_json.push_changing.Goals as goal

pub returns : goal.returns
returns c =
    two c.args.out.now.items
    (codes ",\"previous\":{\"config\":\"") _ _ _ c.in_ok-extend_from_slice.ensures.items
    (two c.extend_from_slice.new.self.items
    (encode_lower c.args.previous.config.0) _ _ _ c.in_ok-push_digits.ensures
    (two c.push_digits.new.out.items
    (codes "\",\"used\":") _ _ _ c.in_ok-extend_from_slice-2.ensures.items
    (two c.extend_from_slice-2.new.self.items
    (number_or_null c.args.previous.used) _ _ _ c.in_ok-push_number_or_null.ensures
    (two c.push_number_or_null.new.out.items
    (codes ",\"peers\":[") _ _ _ c.in_ok-extend_from_slice-3.ensures.items
    (two c.extend_from_slice-3.new.self.items
    (parted_texts asked_json false c.args.peers.now) (codes "]}") _ _
    c.in_ok-push_asked_peers.ensures c.in_ok-extend_from_slice-4.ensures.items)))))
