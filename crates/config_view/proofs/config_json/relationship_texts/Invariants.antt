use Rattle.std.proofs.Common.{◌≡◌, ◌++◌, drop, map}
use Rattle.config_view.specs.ConfigJson.{relationship_json}
use Rattle.config_view.proofs.config_json.relationship_texts.Given as goal

abbrev pub invariant-loop-relationship : goal.invariant-loop-relationship
invariant-loop-relationship l = l.texts.items ++ map relationship_json (drop l.relationship-index l.relationships) ≡ map relationship_json l.relationships
