use Rattle.std.proofs.Common.{◌≡◌, ◌++◌, drop, false}
use Rattle.json_text.specs.JsonText.{parted_texts}
use Rattle.change_view.specs.ChangeTexts.{key_digits}
use Rattle.change_view.proofs.change_texts.push_keys.Given as goal

abbrev pub invariant-loop-key : goal.invariant-loop-key
invariant-loop-key l =
    l.out.items ++ parted_texts key_digits l.later (drop l.key-index l.keys) ≡ l.initial.out.items ++ parted_texts key_digits false l.keys
