use Rattle.std.proofs.Common.{◌≡◌, ◌++◌, drop, flat_map, option_copied}
use Rattle.key_view.specs.KeysText.{domain_lines}
use Rattle.key_view.proofs.keys_writer.keys_lines.Given as goal

abbrev pub invariant-loop-keys : goal.invariant-loop-keys
invariant-loop-keys l =
    l.text.items ++ flat_map (domain_lines (option_copied l.fn.chosen)) (drop l.keys-index l.all) ≡ flat_map (domain_lines
    (option_copied l.fn.chosen)) l.all
