use Rattle.std.proofs.Common.{◌≡◌, ◌++◌, drop, flat_map}
use Rattle.status_warnings.specs.Warnings.{late_warning}
use Rattle.status_warnings.proofs.warning_search.push_late.Given as goal

abbrev pub invariant-loop-fetch : goal.invariant-loop-fetch
invariant-loop-fetch l =
    l.found.items ++ flat_map (late_warning l.limits) (drop l.fetch-index l.fetches)
    ≡ l.initial.found.items ++ flat_map (late_warning l.limits) l.fetches
