use Rattle.std.proofs.Common.{◌≡◌, ◌++◌, drop}
use Rattle.key_view.specs.SameKeys.{ids_with}
use Rattle.key_view.proofs.matching_keys.ids_with.Given as goal

abbrev pub invariant-loop-entry : goal.invariant-loop-entry
invariant-loop-entry l =
    l.ids.items ++ ids_with l.public_key (drop l.entry-index l.entries) ≡ ids_with l.public_key l.entries
