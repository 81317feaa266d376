use Rattle.std.proofs.Common.{◌≡◌, ◌++◌, drop, false}
use Rattle.json_text.specs.JsonText.{parted_texts}
use Rattle.status_view.specs.StatusJson.{key_json}
use Rattle.status_view.proofs.json_writer.push_keys.Given as goal

abbrev pub invariant-loop-key : goal.invariant-loop-key
invariant-loop-key l =
    l.out.items ++ parted_texts key_json l.later (drop l.key-index l.keys) ≡ l.initial.out.items ++ parted_texts key_json false l.keys
