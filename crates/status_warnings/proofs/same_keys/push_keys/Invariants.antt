use Rattle.std.proofs.Common.{◌≡◌, ◌++◌, drop, map}
use Rattle.status_warnings.specs.SameKeys.{same_key_of}
use Rattle.status_warnings.proofs.same_keys.push_keys.Given as goal

abbrev pub invariant-loop-key : goal.invariant-loop-key
invariant-loop-key l =
    l.found.items ++ map (same_key_of l.domain) (drop l.key-index l.keys) ≡ l.fn.found.items ++ map (same_key_of l.domain) l.keys
