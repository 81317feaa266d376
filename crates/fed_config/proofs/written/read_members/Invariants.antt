use Rattle.std.proofs.Common.{◌≡◌, ◌^◌, ◌<◌}
use Rattle.std.specs.List.{AllByRecursion}
use Rattle.serde_json.specs.View.{members_view}
use Rattle.fed_config.proofs.FloorFacts.{before}
use Rattle.fed_config.proofs.written.read_members.Given as goal

abbrev pub invariant-loop-name : goal.invariant-loop-name
invariant-loop-name l = record {
  read : before l.floors.items (members_view l.name-iterator) ≡ members_view l.initial.name-iterator;
  fit : AllByRecursion (λ f. f.sequence < 2 ^ 64) l.floors.items;
}
