use Rattle.std.proofs.Common.{◌≡◌, ◌++◌, drop, false}
use Rattle.json_text.specs.JsonText.{own_text, parted_texts}
use Rattle.json_text.proofs.json_array.push_items.Given as goal

abbrev pub invariant-loop-item : goal.invariant-loop-item
invariant-loop-item l =
    l.out.items ++ parted_texts own_text l.later (drop l.item-index l.items) ≡ l.initial.out.items ++ parted_texts own_text false l.items
