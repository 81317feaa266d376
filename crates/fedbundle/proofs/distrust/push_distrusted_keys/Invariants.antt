use Rattle.std.proofs.Common.{◌≡◌, ◌++◌, drop, flat_map}
use Rattle.fedbundle.specs.Distrust.{distrusted_line}
use Rattle.fedbundle.proofs.distrust.push_distrusted_keys.Given as goal

abbrev pub invariant-loop-key : goal.invariant-loop-key
invariant-loop-key l =
    l.text.items ++ flat_map distrusted_line (drop l.key-index l.keys) ≡ l.fn.text.items ++ flat_map distrusted_line l.keys
