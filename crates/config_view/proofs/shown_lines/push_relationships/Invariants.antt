use Rattle.std.proofs.Common.{◌≡◌, ◌++◌, drop, map}
use Rattle.config_view.specs.ConfigText.{relationship_line}
use Rattle.config_view.proofs.shown_lines.push_relationships.Given as goal

abbrev pub invariant-loop-relationship : goal.invariant-loop-relationship
invariant-loop-relationship l =
    l.lines.items ++ map relationship_line (drop l.relationship-index l.relationships) ≡ l.initial.lines.items ++ map relationship_line l.relationships
