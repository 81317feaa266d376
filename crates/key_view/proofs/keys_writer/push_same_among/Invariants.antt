use Rattle.std.proofs.Common.{◌≡◌, ◌++◌, drop, flat_map}
use Rattle.key_view.specs.KeysText.{same_key_lines}
use Rattle.key_view.proofs.keys_writer.push_same_among.Given as goal

abbrev pub invariant-loop-entry : goal.invariant-loop-entry
invariant-loop-entry l =
    l.out.items ++ flat_map (same_key_lines l.domain l.keys) (drop l.entry-index l.entries) ≡ l.fn.out.items ++ flat_map
    (same_key_lines l.domain l.keys) l.entries
