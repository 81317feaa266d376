use Rattle.std.proofs.Common.{◌≡◌, take}
use Rattle.fed_config.proofs.config.copies_of_relationships.Given as goal

abbrev pub invariant-loop-relationship : goal.invariant-loop-relationship
invariant-loop-relationship l = l.copies.items ≡ take l.relationship-index l.relationships
