use Rattle.std.proofs.Common.{◌≡◌, ◌++◌, drop, map}
use Rattle.config_view.specs.ConfigJson.{floor_json}
use Rattle.config_view.proofs.config_json.floor_texts.Given as goal

abbrev pub invariant-loop-floor : goal.invariant-loop-floor
invariant-loop-floor l = l.texts.items ++ map floor_json (drop l.floor-index l.floors) ≡ map floor_json l.floors
