use Rattle.std.proofs.Common.{◌≡◌, ◌++◌, drop, map}
use Rattle.config_view.specs.ConfigJson.{name_json}
use Rattle.config_view.proofs.config_json.name_texts.Given as goal

abbrev pub invariant-loop-domain : goal.invariant-loop-domain
invariant-loop-domain l = l.texts.items ++ map name_json (drop l.domain-index l.domains) ≡ map name_json l.domains
