-- Sorted seeds, each once, are the same set.
use Rattle.std.proofs.Common.{◌≡◌, ℕ, List, Less, Equal, Greater, refl, sym, subst}
use Rattle.std.specs.Cmp.{Equal-is}
use Rattle.std.specs.Ordering.{ordering_then, nat_cmp}
use Rattle.std.specs.declared.cmp.Ordering.{Ordering}
use Rattle.std.specs.Cmp.Lexicographic.{slice_cmp}
use Rattle.std.specs.List.{AllByRecursion, Contains, dedup}
use Rattle.std.specs.List.Sorted.{IsPermutation, IsSorted}
use Rattle.std.proofs.lemmas.List.Kept.{Any-dedup, Contains-from_dedup, IsStrictlySortedBy-dedup}
use Rattle.std.proofs.lemmas.List.Sorted.{Contains-permutation, IsPermutation-sym}
use Rattle.std.proofs.lemmas.Map.Lookups.{exact_bytes}
use Rattle.bundle_doc.specs.Bundle.{Bundle, IsBundle, canonical_text}
use Rattle.fed_config.specs.Configuration.{IsSeed, domain_cmp, seed_cmp}
use Rattle.fed_config.specs.Reading.{IsSetOf}
use Rattle.fed_config.specs.Seeds.{same_seed, same_seed_equiv, seed_cmp_total, seeds_tie}
use Rattle.fed_config.specs.declared.seed.Seed.{Seed}
use Rattle.fed_config.proofs.SetFacts.{Has-Contains, each_has}

-- an order by two parts finds equal only what both parts find equal
both_equal : (a b : Ordering) → ordering_then a b ≡ Equal → (a ≡ Equal) × (b ≡ Equal)
both_equal Less b e = absurd (cc)
both_equal Equal b e = (refl, e)
both_equal Greater b e = absurd (cc)

-- bundles with one canonical text are equal: a law of `bundle_doc`
abbrev pub OneText : Type 0
OneText = (b c : Bundle) → IsBundle b → IsBundle c → canonical_text b ≡ canonical_text c → b ≡ c

-- a seed from its parts
seed : List ℕ → Bundle → Seed
seed domain document = record { domain = domain; document = document }

-- seeds that compare as equal are equal
pub one_seed : OneText → (s t : Seed) → IsSeed s → IsSeed t → seed_cmp s t ≡ Equal → s ≡ t
unfolding seed
one_seed one s t p q tied =
    let both = both_equal (domain_cmp s.domain t.domain) (slice_cmp nat_cmp (canonical_text s.document) (canonical_text t.document)) tied in
    let domains : s.domain ≡ t.domain = exact_bytes s.domain t.domain both.0 in
    let documents : s.document ≡ t.document =
    one s.document t.document p.bundle q.bundle
    (exact_bytes (canonical_text s.document) (canonical_text t.document) both.1) in
    let same : seed s.domain s.document ≡ seed t.domain t.document = cc in same

-- seeds, sorted and each once, are the strictly sorted list of their set
pub IsSetOf-dedup : OneText → (xs ys : List Seed) → AllByRecursion IsSeed xs → IsPermutation xs ys
    → IsSorted seed_cmp ys → IsSetOf seed_cmp xs (dedup same_seed ys)
IsSetOf-dedup one xs ys each moved sorted =
    let is_seed : (x : Seed) → Contains ys x → IsSeed x =
    λ x h. each_has IsSeed xs x each
    (Has-Contains xs x (Contains-permutation ys xs x (IsPermutation-sym xs ys moved) h)) in
    record {
      rising = IsStrictlySortedBy-dedup seed_cmp_total seeds_tie ys sorted;
      members = λ x. (
        λ h. Contains-permutation ys xs x (IsPermutation-sym xs ys moved) (Contains-from_dedup same_seed ys x h),
        λ h.
            let here = Contains-permutation xs ys x moved h in
            let found = Any-dedup same_seed_equiv ys x here in
            let kept : Contains (dedup same_seed ys) found.1 = (found.0, found.2, found.3) in
            let same : x ≡ found.1 =
            one_seed one x found.1 (is_seed x here)
            (is_seed found.1 (Contains-from_dedup same_seed ys found.1 kept))
            ((Equal-is (seed_cmp x found.1)).0 found.4) in
            subst (Contains (dedup same_seed ys)) (sym same) kept,
      );
    }
