use Rattle.std.proofs.Common.{◌≡◌, ◌++◌, drop, filter, map}
use Rattle.status_view.specs.Status.{is_keyless, keyless_by}
use Rattle.status_view.proofs.keyless.keyless_seeds.Given as goal

abbrev pub invariant-loop-seed : goal.invariant-loop-seed
invariant-loop-seed l = l.keyless.items ++ map keyless_by (filter is_keyless (drop l.seed-index l.seeds)) ≡ map keyless_by (filter is_keyless l.seeds)
