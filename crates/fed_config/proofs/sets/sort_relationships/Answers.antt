use Rattle.std.proofs.Common.{is_lt, rules}
use Rattle.std.proofs.lemmas.Cmp.{nat_list_cmp_total}
use Rattle.std.proofs.lemmas.Fn.{always_returns_same}
use Rattle.std.proofs.lemmas.List.Sorted.{ranks_by}
use Rattle.fed_config.specs.Configuration.{relationship_cmp}
use Rattle.fed_config.specs.declared.relationship.Relationship.{Relationship}
use Rattle.fed_config.proofs.sets.sort_relationships.Goals as goal

pub returns-clause-sorted : goal.returns-clause-sorted
returns-clause-sorted c = c.sort_unstable_by.ensures.sorted (λ a b. is_lt (relationship_cmp a b))
    (ranks_by nat_list_cmp_total (λ (r : Relationship). r.domain)) (always_returns_same _ _ _ (λ a r q k. search rules))
