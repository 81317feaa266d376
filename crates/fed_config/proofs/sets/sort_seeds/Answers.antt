use Rattle.std.proofs.lemmas.List.Filters.{dedup_is}
use Rattle.fed_config.proofs.SeedFacts.{IsSetOf-dedup}
use Rattle.fed_config.proofs.sets.sort_seeds.Goals as goal

pub returns-clause-set : goal.returns-clause-set
returns-clause-set c = rw (dedup_is _ _ _ c.dedup.ensures.filtered)
    (IsSetOf-dedup c.documents.ensures.one_text _ _ c.requires c.sort_unstable.ensures.permutation
    c.sort_unstable.ensures.sorted)
