use Rattle.std.proofs.Common.{◌≡◌, ◌++◌, drop, flat_map}
use Rattle.status_view.specs.StatusLines.{current_key_line}
use Rattle.status_view.proofs.text_writer.push_keys.Given as goal

abbrev pub invariant-loop-key : goal.invariant-loop-key
invariant-loop-key l =
    l.out.items ++ flat_map current_key_line (drop l.key-index l.keys) ≡ l.initial.out.items ++ flat_map current_key_line l.keys
