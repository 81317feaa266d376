use Rattle.std.proofs.Common.{◌≡◌, map, take}
use Rattle.serde_json.specs.View.{view}
use Rattle.jwk_set.specs.Element.{tree_of}
use Rattle.bundle_doc.proofs.authorities.values_of.Given as goal

abbrev pub invariant-loop-authority : goal.invariant-loop-authority
invariant-loop-authority l = map view l.values.items ≡ map tree_of (take l.authority-index l.authorities)
