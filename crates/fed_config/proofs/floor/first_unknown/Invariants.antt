use Rattle.std.proofs.Common.{take}
use Rattle.std.specs.List.{AllByRecursion, Contains}
use Rattle.fed_config.proofs.floor.first_unknown.Given as goal

abbrev pub invariant-loop-entry : goal.invariant-loop-entry
invariant-loop-entry l = AllByRecursion (λ f. Contains l.domains f.domain) (take l.entry-index l.floors)
