use Rattle.std.proofs.Common.{◌≡◌, ◌++◌, drop, flat_map}
use Rattle.status_warnings.specs.Warnings.{same_key_warning}
use Rattle.status_warnings.proofs.warning_search.push_same_keys.Given as goal

abbrev pub invariant-loop-same : goal.invariant-loop-same
invariant-loop-same l =
    l.found.items ++ flat_map same_key_warning (drop l.same-index l.same_keys)
    ≡ l.initial.found.items ++ flat_map same_key_warning l.same_keys
