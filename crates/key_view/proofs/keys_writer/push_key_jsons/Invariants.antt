use Rattle.std.proofs.Common.{◌≡◌, ◌++◌, drop, map}
use Rattle.key_view.specs.KeysText.{known_key_json}
use Rattle.key_view.proofs.keys_writer.push_key_jsons.Given as goal

abbrev pub invariant-loop-entry : goal.invariant-loop-entry
invariant-loop-entry l =
    l.texts.items ++ map (known_key_json l.domain l.keys) (drop l.entry-index l.entries)
    ≡ l.fn.texts.items ++ map (known_key_json l.domain l.keys) l.entries
