use Rattle.std.proofs.Common.{◌≡◌, ◌++◌, drop, flat_map, option_copied}
use Rattle.key_view.specs.KeysText.{domain_jsons}
use Rattle.key_view.proofs.keys_writer.key_jsons.Given as goal

abbrev pub invariant-loop-keys : goal.invariant-loop-keys
invariant-loop-keys l =
    l.texts.items ++ flat_map (domain_jsons (option_copied l.fn.chosen)) (drop l.keys-index l.all) ≡ flat_map (domain_jsons
    (option_copied l.fn.chosen)) l.all
