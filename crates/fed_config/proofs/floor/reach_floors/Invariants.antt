use Rattle.std.proofs.Common.{take}
use Rattle.std.specs.List.{AllByRecursion}
use Rattle.fed_config.specs.Configuration.{ReachesEach}
use Rattle.fed_config.proofs.floor.reach_floors.Given as goal

abbrev pub invariant-loop-seed : goal.invariant-loop-seed
invariant-loop-seed l = AllByRecursion (λ s. ReachesEach l.floors s.domain s.document) (take l.seed-index l.seeds)
