use Rattle.std.proofs.Common.{take}
use Rattle.std.specs.List.{AllZip}
use Rattle.serde_json.specs.View.{view}
use Rattle.fed_config.specs.Written.{SaysRelationshipText}
use Rattle.fed_config.proofs.written.read_relationships.Given as goal

abbrev pub invariant-loop-element : goal.invariant-loop-element
invariant-loop-element l = AllZip (λ value t. SaysRelationshipText (view value) t) (take l.element-index l.elements) l.entries.items
