use Rattle.std.proofs.Common.{codes}
use Rattle.json_text.specs.JsonText.{array_member}
use Rattle.config_view.specs.ConfigJson.{floors_part, seeds_part}
use Rattle.json_text.proofs.PartFacts.{one_text}
use Rattle.config_view.proofs.config_json.push_seeds_part.Goals as goal

pub returns : goal.returns
unfolding seeds_part
returns c =
    one_text c.args.out.now.items (array_member (codes ",\"domains\":") c.args.domains.now) _ _ _ c.in_ok-push_array.ensures
    (one_text c.push_array.new.out.items (array_member (codes ",\"seeds\":") c.args.seeds.now) _ _ _ c.in_ok-push_array-2.ensures
    (one_text c.push_array-2.new.out.items (floors_part c.args.floors.now) (codes "}\n") _ _ c.in_ok-push_floors.ensures
    c.in_ok-extend_from_slice.ensures.items))
