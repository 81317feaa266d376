use Rattle.std.proofs.Common.{◌≡◌, take}
use Rattle.std.specs.List.{AllByRecursion, Contains}
use Rattle.fed_config.proofs.floor.read_floors.Given as goal

abbrev pub invariant-loop-entry : goal.invariant-loop-entry
invariant-loop-entry l = record {
  same : l.floors.items ≡ take l.entry-index l.entries;
  known : AllByRecursion (λ f. Contains l.domains f.domain) (take l.entry-index l.entries);
}
