use Rattle.std.proofs.Common.{◌≡◌, ◌++◌, drop, flat_map}
use Rattle.key_view.specs.KeysText.{known_key_line}
use Rattle.key_view.proofs.keys_writer.push_key_lines.Given as goal

abbrev pub invariant-loop-entry : goal.invariant-loop-entry
invariant-loop-entry l =
    l.out.items ++ flat_map (known_key_line l.domain l.keys) (drop l.entry-index l.entries) ≡ l.fn.out.items ++ flat_map
    (known_key_line l.domain l.keys) l.entries
