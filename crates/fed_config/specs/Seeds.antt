-- The order of seeds: by domain, then by canonical text.
use Rattle.std.specs.Prelude.{◌≡◌, Bool, Some, refl}
use Rattle.std.specs.Cmp.{IsTotalOrder, IsEquivalence, IsPartialOrder, then_total, on_total}
use Rattle.std.specs.Cmp.{eq_by_cmp_equiv, partial_order_from_total}
use Rattle.std.specs.Ordering.{eq_by_cmp}
use Rattle.std.specs.Cmp.Lexicographic.{nat_list_cmp_total}
use Rattle.bundle_doc.specs.Bundle.{canonical_text}
use Rattle.fed_config.specs.Configuration.{seed_cmp}
use Rattle.fed_config.specs.declared.seed.Seed.{Seed}

pub seed_cmp_total : IsTotalOrder seed_cmp
seed_cmp_total = then_total (on_total (λ (s : Seed). s.domain) nat_list_cmp_total)
    (on_total (λ (s : Seed). canonical_text s.document) nat_list_cmp_total)

-- seeds are the same if they compare as equal
abbrev pub same_seed : Seed → Seed → Bool
same_seed = eq_by_cmp seed_cmp

pub same_seed_equiv : IsEquivalence same_seed
same_seed_equiv = eq_by_cmp_equiv seed_cmp_total

pub seeds_po : IsPartialOrder same_seed (λ a b. Some (seed_cmp a b))
seeds_po = partial_order_from_total seed_cmp_total

pub seeds_tie : (a b : Seed) → same_seed a b ≡ eq_by_cmp seed_cmp a b
seeds_tie a b = refl
