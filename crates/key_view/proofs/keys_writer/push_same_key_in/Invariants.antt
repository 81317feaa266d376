use Rattle.std.proofs.Common.{◌≡◌, ◌++◌, drop, flat_map}
use Rattle.key_view.specs.KeysText.{same_key_line}
use Rattle.key_view.proofs.keys_writer.push_same_key_in.Given as goal

abbrev pub invariant-loop-bundle : goal.invariant-loop-bundle
invariant-loop-bundle l =
    l.out.items ++ flat_map (same_key_line l.domain l.entry.key) (drop l.bundle-index l.bundles) ≡ l.fn.out.items ++ flat_map
    (same_key_line l.domain l.entry.key) l.bundles
