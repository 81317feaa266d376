use Rattle.std.proofs.Common.{◌≡◌, ℕ, ◌<◌, get_or, Less}
use Rattle.std.proofs.Common.{suc}
use Rattle.fed_config.specs.declared.relationship.Relationship.{Relationship}
use Rattle.fed_config.specs.Configuration.{relationship_cmp}
use Rattle.fed_config.proofs.sets.are_single.Given as goal

abbrev pub invariant-loop-place : goal.invariant-loop-place
invariant-loop-place l = (k : ℕ) (d : Relationship) → suc k < l.place → relationship_cmp (get_or l.relationships k d) (get_or l.relationships (suc k) d) ≡ Less
