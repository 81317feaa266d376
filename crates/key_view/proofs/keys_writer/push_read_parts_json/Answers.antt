use Rattle.std.proofs.Common.{rules, w64, to_z-of_z, FitsSigned}
use Rattle.key_view.proofs.PieceFacts.{four_pieces}
use Rattle.key_view.proofs.keys_writer.push_read_parts_json.Goals as goal

pub returns : goal.returns
returns c =
    let from : FitsSigned w64 c.args.parts.now.not_before = search rules in
    let until : FitsSigned w64 c.args.parts.now.not_after = search rules in
    four_pieces _ _ _ _ _ _ _ _ _ c.in_ok-push_digest.ensures (simp to_z-of_z at c.in_ok-push_number.ensures)
    (simp to_z-of_z at c.in_ok-push_number-2.ensures) c.in_ok-push_texts_json.ensures
