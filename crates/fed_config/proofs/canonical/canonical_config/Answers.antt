use Rattle.std.proofs.Common.{[], codes, false, map, sym, ◌∙◌}
use Rattle.serde_json.specs.View.{items_of}
use Rattle.serde_json.specs.Written.{items_text}
use Rattle.fed_config.specs.Configuration.{relationship_tree, seed_tree}
use Rattle.fed_config.specs.Inside.FloorsText.{floors_text}
use Rattle.fed_config.proofs.TextFacts.{config_parts, seven}
use Rattle.fed_config.proofs.canonical.canonical_config.Goals as goal

pub returns : goal.returns
returns c =
    rw (
      c.in_ok-extend_from_slice-4.ensures.items,
      c.in_ok-write_seeds.ensures,
      c.in_ok-extend_from_slice-3.ensures.items,
      c.in_ok-write_relationships.ensures,
      c.in_ok-extend_from_slice-2.ensures.items,
      c.in_ok-write_floors.ensures,
      c.in_ok-extend_from_slice.ensures.items,
      c.new-out.ensures.items,
    )
    (seven [] (codes "{") (floors_text c.args.floors.now) (codes "\"relationships\":[")
    (items_text false (items_of (map relationship_tree c.args.relationships.now))) (codes ",\"seeds\":[")
    (items_text false (items_of (map seed_tree c.args.seeds.now))) (codes "}")
    ∙ sym (config_parts c.args.relationships.now c.args.seeds.now c.args.floors.now))
