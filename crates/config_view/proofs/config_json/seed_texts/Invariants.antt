use Rattle.std.proofs.Common.{◌≡◌, ◌++◌, drop, map}
use Rattle.config_view.specs.ConfigJson.{seed_json}
use Rattle.config_view.proofs.config_json.seed_texts.Given as goal

abbrev pub invariant-loop-seed : goal.invariant-loop-seed
invariant-loop-seed l = l.texts.items ++ map seed_json (drop l.seed-index l.seeds) ≡ map seed_json l.seeds
