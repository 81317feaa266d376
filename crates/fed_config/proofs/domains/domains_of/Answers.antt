use Rattle.std.proofs.Common.{subst}
use Rattle.std.specs.List.Sorted.{IsPermutation}
use Rattle.std.proofs.lemmas.List.Filters.{dedup_is}
use Rattle.fed_config.proofs.GatherFacts.{IsSetOf-dedup}
use Rattle.fed_config.proofs.domains.domains_of.Goals as goal

pub returns : goal.returns
returns c =
    rw (dedup_is _ _ _ c.dedup.ensures.filtered)
    (IsSetOf-dedup _ _
    (subst (λ l. IsPermutation l c.sort_unstable.new.self.items) c.in_ok-domains.ensures
    c.sort_unstable.ensures.permutation) c.sort_unstable.ensures.sorted)
