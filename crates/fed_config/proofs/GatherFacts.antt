-- The domains that are gathered, sorted and each once, are those of the configuration.
use Rattle.std.proofs.Common.{◌≡◌, ℕ, ◌+◌, ◌<◌, ◌⊎◌, inl, inr, List, [], ◌∷◌, ◌++◌, length, get_or, drop, map, refl}
use Rattle.std.proofs.Common.{sym, ap, ◌∙◌, subst, append_assoc, bytes_eq, arith}
use Rattle.std.specs.List.{Contains, flat_map, dedup, zip}
use Rattle.std.specs.List.Sorted.{IsPermutation, IsSorted}
use Rattle.std.specs.Cmp.Lexicographic.{nat_list_eq_equiv, nat_list_cmp_total, texts_ties}
use Rattle.std.proofs.lemmas.List.{drop_more}
use Rattle.std.proofs.lemmas.List.Kept.{Contains-dedup, Contains-from_dedup, IsStrictlySortedBy-dedup}
use Rattle.std.proofs.lemmas.List.Sorted.{Contains-permutation, IsPermutation-sym}
use Rattle.std.proofs.lemmas.Slice.Eq.{bytes_eq-Decides}
use Rattle.bundle_doc.specs.Bundle.{Bundle}
use Rattle.fed_config.specs.Configuration.{Configuration, AreDomains, HasDomain, domain_cmp, relationship_cmp, seed_cmp}
use Rattle.fed_config.specs.Domains.{both_domains, gathered}
use Rattle.fed_config.specs.Reading.{IsSetOf, joined_relationship, joined_seed}
use Rattle.fed_config.specs.declared.floor.Floor.{Floor}
use Rattle.fed_config.specs.declared.names.Names.{Names}
use Rattle.fed_config.specs.declared.relationship.Relationship.{Relationship}
use Rattle.fed_config.specs.declared.seed.Seed.{Seed}
use Rattle.fed_config.proofs.SetFacts.{Has, Has-Contains, Contains-Has}
use Rattle.fed_config.specs.Limits.{usual_limits}

-- ---- the loops' turns

-- what is left is the next element and what is left after it
from_drop : {X : Type 0} (xs : List X) (i : ℕ) (x : X) → i < length xs → x ≡ get_or xs i x → drop i xs ≡ x ∷ drop (i + 1) xs
from_drop xs i x below at = drop_more xs i x below ∙ ap (λ y. y ∷ drop (i + 1) xs) (sym at)

-- the two domains of one relationship more were gathered: the step of the loop in `gather`
pub gathered_next : (ns : List Names) (seeds : List (List ℕ)) (i : ℕ) (n : Names) (out : List (List ℕ)) → i < length ns → n ≡ get_or ns i n
    → out ++ gathered (drop i ns) seeds ≡ ((out ++ n.domain ∷ []) ++ n.endpoint.domain ∷ []) ++ gathered (drop (i + 1) ns) seeds
gathered_next ns seeds i n out below at =
    ap (λ l. out ++ gathered l seeds) (from_drop ns i n below at)
    ∙ sym (append_assoc (out ++ n.domain ∷ []) (n.endpoint.domain ∷ []) (gathered (drop (i + 1) ns) seeds)
    ∙ append_assoc out (n.domain ∷ []) (n.endpoint.domain ∷ gathered (drop (i + 1) ns) seeds))

-- one element more was gathered, as a seed's domain is
pub taken_next : {X : Type 0} (xs : List X) (i : ℕ) (x : X) (out : List X) → i < length xs
    → x ≡ get_or xs i x → out ++ drop i xs ≡ (out ++ x ∷ []) ++ drop (i + 1) xs
taken_next xs i x out below at = ap (λ l. out ++ l) (from_drop xs i x below at) ∙ sym (append_assoc out (x ∷ []) (drop (i + 1) xs))

-- gathered domains, sorted and each once, are the strictly sorted list of their set
pub IsSetOf-dedup : (all ys : List (List ℕ)) → IsPermutation all ys → IsSorted domain_cmp ys → IsSetOf domain_cmp all (dedup bytes_eq ys)
IsSetOf-dedup all ys moved sorted = record {
  rising = IsStrictlySortedBy-dedup nat_list_cmp_total texts_ties ys sorted;
  members = λ d. (
    λ h. Contains-permutation ys all d (IsPermutation-sym all ys moved) (Contains-from_dedup bytes_eq ys d h),
    λ h. Contains-dedup nat_list_eq_equiv (λ a b e. (bytes_eq-Decides a b).0 e) ys d (Contains-permutation all ys d moved h),
  );
}

-- ---- what was gathered

-- a configuration from its parts
abbrev of : List Relationship → List Seed → List Floor → Configuration
of rs seeds floors = record { relationships = rs; seeds = seeds; floors = floors; limits = usual_limits }

-- a member of two joined lists is a member of one of them
pub either : {X : Type 0} (xs ys : List X) (x : X) → Has (xs ++ ys) x → Has xs x ⊎ Has ys x
either [] ys x h = inr h
either (y ∷ xs) ys x (inl e) = inl (inl e)
either (y ∷ xs) ys x (inr h) = elim (either xs ys x h) [ inl l ↦ inl (inr l) | inr r ↦ inr r ]

-- a member of the first list is one of both joined
pub left : {X : Type 0} (xs ys : List X) (x : X) → Has xs x → Has (xs ++ ys) x
left [] ys x h = absurd h
left (y ∷ xs) ys x (inl e) = inl e
left (y ∷ xs) ys x (inr h) = inr (left xs ys x h)

-- a member of the second list is one of both joined
pub right : {X : Type 0} (xs ys : List X) (x : X) → Has ys x → Has (xs ++ ys) x
right [] ys x h = h
right (y ∷ xs) ys x h = inr (right xs ys x h)

-- the domain is one of the two of some relationship
abbrev OfRelationship : List Relationship → List ℕ → Type 0
OfRelationship rs d = ((r : Relationship) × Has rs r × (r.domain ≡ d)) ⊎ ((r : Relationship) × Has rs r × (r.endpoint.domain ≡ d))

-- the relationships of these names and URLs, and the seeds of these domains and documents
abbrev rs_of : List Names → List (List ℕ) → List Relationship
rs_of ns us = map joined_relationship (zip ns us)

abbrev ss_of : List (List ℕ) → List Bundle → List Seed
ss_of ds bs = map joined_seed (zip ds bs)

-- each domain gathered from names is such a one
of_relationship : (ns : List Names) (us : List (List ℕ)) → length ns ≡ length us → (d : List ℕ) → Has (flat_map both_domains ns) d
    → OfRelationship (rs_of ns us) d
of_relationship [] us same d h = absurd h
of_relationship (n ∷ ns) [] same d h = absurd (cc)
of_relationship (n ∷ ns) (u ∷ us) same d (inl e) = inl (joined_relationship (n, u), inl refl, sym e)
of_relationship (n ∷ ns) (u ∷ us) same d (inr (inl e)) = inr (joined_relationship (n, u), inl refl, sym e)
of_relationship (n ∷ ns) (u ∷ us) same d (inr (inr h)) =
    elim (of_relationship ns us (omega (arith, same)) d h) [ inl p ↦ inl (p.0, inr p.1, p.2) | inr p ↦ inr (p.0, inr p.1, p.2) ]

-- a relationship's own domain is gathered
own_there : (ns : List Names) (us : List (List ℕ)) (r : Relationship) → Has (rs_of ns us) r → Has (flat_map both_domains ns) r.domain
own_there [] us r h = absurd h
own_there (n ∷ ns) [] r h = absurd h
own_there (n ∷ ns) (u ∷ us) r (inl e) = inl (ap (λ (x : Relationship). x.domain) e)
own_there (n ∷ ns) (u ∷ us) r (inr h) = inr (inr (own_there ns us r h))

-- the domain of its endpoint is gathered
endpoint_there : (ns : List Names) (us : List (List ℕ)) (r : Relationship) → Has (rs_of ns us) r → Has (flat_map both_domains ns) r.endpoint.domain
endpoint_there [] us r h = absurd h
endpoint_there (n ∷ ns) [] r h = absurd h
endpoint_there (n ∷ ns) (u ∷ us) r (inl e) = inr (inl (ap (λ (x : Relationship). x.endpoint.domain) e))
endpoint_there (n ∷ ns) (u ∷ us) r (inr h) = inr (inr (endpoint_there ns us r h))

-- each domain that was read for a seed is that of a seed
of_seed : (ds : List (List ℕ)) (bs : List Bundle) → length ds ≡ length bs → (d : List ℕ) → Has ds d → (s : Seed) × Has (ss_of ds bs) s × (s.domain ≡ d)
of_seed [] bs same d h = absurd h
of_seed (e ∷ ds) [] same d h = absurd (cc)
of_seed (e ∷ ds) (b ∷ bs) same d (inl p) = (joined_seed (e, b), inl refl, sym p)
of_seed (e ∷ ds) (b ∷ bs) same d (inr h) = let rest = of_seed ds bs (omega (arith, same)) d h in (rest.0, inr rest.1, rest.2)

-- the domain of a seed was read
seed_there : (ds : List (List ℕ)) (bs : List Bundle) (s : Seed) → Has (ss_of ds bs) s → Has ds s.domain
seed_there [] bs s h = absurd h
seed_there (e ∷ ds) [] s h = absurd h
seed_there (e ∷ ds) (b ∷ bs) s (inl p) = inl (ap (λ (x : Seed). x.domain) p)
seed_there (e ∷ ds) (b ∷ bs) s (inr h) = inr (seed_there ds bs s h)

module _ (ns : List Names) (us : List (List ℕ)) (ds : List (List ℕ)) (bs : List Bundle)
    (rs ys : List Relationship) (ss zs : List Seed) (floors : List Floor)
    (joined : rs ≡ map joined_relationship (zip ns us)) (joined_ss : ss ≡ map joined_seed (zip ds bs))
    (relationship_set : IsSetOf relationship_cmp rs ys) (seed_set : IsSetOf seed_cmp ss zs) where
  -- a relationship of these names is one of the configuration, and the other way round
  to_ys : (r : Relationship) → Has (rs_of ns us) r → Contains ys r
  to_ys r h = (relationship_set.members r).1 (Contains-Has rs r (subst (λ l. Has l r) (sym joined) h))

  from_ys : (r : Relationship) → Contains ys r → Has (rs_of ns us) r
  from_ys r h = subst (λ l. Has l r) joined (Has-Contains rs r ((relationship_set.members r).0 h))

  -- the same for a seed
  to_zs : (s : Seed) → Has (ss_of ds bs) s → Contains zs s
  to_zs s h = (seed_set.members s).1 (Contains-Has ss s (subst (λ l. Has l s) (sym joined_ss) h))

  from_zs : (s : Seed) → Contains zs s → Has (ss_of ds bs) s
  from_zs s h = subst (λ l. Has l s) joined_ss (Has-Contains ss s ((seed_set.members s).0 h))

  -- each gathered domain is one of the configuration
  sound : length ns ≡ length us → length ds ≡ length bs → (d : List ℕ) → Has (gathered ns ds) d → HasDomain (of ys zs floors) d
  sound same same_ds d h = elim (either (flat_map both_domains ns) ds d h) [
    | inl l ↦ elim (of_relationship ns us same d l) [
      | inl p ↦ inl (p.0, to_ys p.0 p.1, p.2)
      | inr p ↦ inr (inl (p.0, to_ys p.0 p.1, p.2))
    ]
    | inr r ↦ let p = of_seed ds bs same_ds d r in inr (inr (p.0, to_zs p.0 p.1, p.2))
  ]

  -- each domain of the configuration is gathered
  complete : (d : List ℕ) → HasDomain (of ys zs floors) d → Has (gathered ns ds) d
  complete d (inl p) = left (flat_map both_domains ns) ds d (subst (Has (flat_map both_domains ns)) p.2 (own_there ns us p.0 (from_ys p.0 p.1)))
  complete d (inr (inl p)) =
      left (flat_map both_domains ns) ds d
      (subst (Has (flat_map both_domains ns)) p.2 (endpoint_there ns us p.0 (from_ys p.0 p.1)))
  complete d (inr (inr p)) = right (flat_map both_domains ns) ds d (subst (Has ds) p.2 (seed_there ds bs p.0 (from_zs p.0 p.1)))

  -- the strictly sorted list of the gathered domains is that of the configuration's domains
  pub are_domains : length ns ≡ length us → length ds ≡ length bs → (all : List (List ℕ))
      → IsSetOf domain_cmp (gathered ns ds) all → AreDomains (of ys zs floors) all
  are_domains same same_ds all set = record {
    rising = set.rising;
    sound = λ d h. sound same same_ds d (Has-Contains (gathered ns ds) d ((set.members d).0 h));
    complete = λ d h. (set.members d).1 (Contains-Has (gathered ns ds) d (complete d h));
  }
