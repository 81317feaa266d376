-- What is written, as the code holds it.
use Rattle.std.specs.Prelude.{◌^◌, ◌<◌, List, map}
use Rattle.std.specs.List.{AllByRecursion}
use Rattle.std.specs.List.Sorted.{IsStrictlySortedBy}
use Rattle.serde_json.specs.View.{view}
use Rattle.fed_config.specs.Configuration.{floor_cmp}
use Rattle.fed_config.specs.Written.{SeedText, Written}
use Rattle.fed_config.specs.declared.floor.Floor.{Floor}
use Rattle.fed_config.specs.declared.written.SeedEntry.{SeedEntry}
use Rattle.fed_config.specs.declared.written.Entries as held

abbrev pub seed_text : SeedEntry → SeedText
seed_text e = record { bundle = view e.bundle.now; domain = e.domain.now }

abbrev pub written_of : held.Entries → Written
written_of w = record {
  relationships = w.relationships.items;
  seeds = map seed_text w.seeds.items;
  floors = w.floors.items;
}

-- the floors of an object, in the order of its names, each below 2^64
pub record AreFloors (floors : List Floor) : Type 0 where
  pub rising : IsStrictlySortedBy floor_cmp floors
  pub fit : AllByRecursion (λ f. f.sequence < 2 ^ 64) floors
