-- What is read, part after part, is a configuration, or is refused for its first cause.
use Rattle.std.proofs.Common.{◌≡◌, ℕ, suc, get_or, Result, Ok, Err, ◌+◌, ◌<◌, ◌≤◌, ◌^◌, ◌⊎◌, inl, inr, List, [], ◌∷◌, length, map}
use Rattle.std.proofs.Common.{true, false, cond, refl, sym, ap, ap₂, ◌∙◌, subst, arith, bytes_eq, Less, Equal, is_lt}
use Rattle.std.specs.Result.{MatchResult}
use Rattle.std.specs.List.{AllByRecursion, AllZip, Contains, flat_map, zip, count_by}
use Rattle.std.specs.List.Sorted.{IsPermutation, IsSorted, IsStrictlySortedBy}
use Rattle.std.proofs.lemmas.List.Sorted.{Contains-permutation, IsPermutation-sym, sum_by-IsPermutation, length_permutation}
use Rattle.std.proofs.lemmas.List.Sums.{sum_by-cons}
use Rattle.std.proofs.lemmas.Slice.Eq.{bytes_eq-Decides}
use Rattle.std.proofs.lemmas.Bool.{cases_Bool}
use Rattle.std.proofs.lemmas.Cmp.{tied_itself}
use Rattle.std.specs.declared.cmp.Ordering.{Ordering}
use Rattle.url.specs.Parts.{Parts}
use Rattle.spiffe_name.specs.TrustDomain.{IsDomainText}
use Rattle.spiffe_name.specs.SpiffeId.{Id, IsId, IsIdText}
use Rattle.serde_json.specs.Data.{Data}
use Rattle.bundle_doc.specs.Bundle.{Bundle, Means, Fits}
use Rattle.fed_config.specs.EndpointUrl.{IsParsed}
use Rattle.fed_config.specs.Written.{RelationshipText, SeedText, Written}
use Rattle.fed_config.specs.Configuration.{Configuration, AreDomains, HasDomain, IsConfiguration, IsFloor, IsRelationship, IsSeed, ReachesEach}
use Rattle.fed_config.specs.Configuration.{domain_cmp, relationship_cmp, seed_cmp}
use Rattle.fed_config.specs.Domains.{both_domains, gathered}
use Rattle.fed_config.specs.Reading.{Fails, HasName, HasNames, HasUrls, HasProfiles, HasSingle, HasDocuments, HasFew}
use Rattle.fed_config.specs.Reading.{HasFewDomains, IsMeant, IsProfile, IsRead, IsSeedText, IsSetOf, NamesDomain, RefusesRead, RefusesWritten}
use Rattle.fed_config.specs.Reading.{HasRisingLists, SaysNames, SaysDomain, SaysUrl, SaysSeedDocument, SaysRelationship}
use Rattle.fed_config.specs.Reading.{SaysSeed, joined_relationship, joined_seed}
use Rattle.fed_config.specs.Inside.Entries.{AreFloors, seed_text}
use Rattle.fed_config.specs.declared.error.ConfigError.{ConfigError}
use Rattle.fed_config.specs.declared.error.ConfigError.TheVariants.{BadName, BadUrl, BadProfile, DoubleRelationship, BadSeed, TooMany}
use Rattle.fed_config.specs.declared.floor.Floor.{Floor}
use Rattle.fed_config.specs.declared.names.Names.{Names}
use Rattle.fed_config.specs.declared.written.SeedEntry.{SeedEntry}
use Rattle.fed_config.specs.declared.relationship.Relationship.{Relationship}
use Rattle.fed_config.specs.declared.seed.Seed.{Seed}
use Rattle.std.specs.Cmp.Lexicographic.{slice_cmp}
use Rattle.std.specs.Ordering.{nat_cmp}
use Rattle.fed_config.proofs.GatherFacts.{are_domains, either, left, right}
use Rattle.fed_config.proofs.SetFacts.{Has, Has-Contains, Contains-Has, each_has, each_from_has}
use Rattle.fed_config.proofs.SingleFacts.{relationships_total, below_by, below_all}
use Rattle.fed_config.proofs.ZipFacts.{each_left, each_right, each_unmap, zip_map, zip_length}
use Rattle.fed_config.specs.Limits.{usual_limits}

-- ---- exits

-- a step that fails refuses what is written: for lack of memory immediately, and for its cause if
-- the failed test does
pub exits : (w : Written) (cause : ConfigError) (P : Type 0) (e : ConfigError) → Fails cause P e → ((P → ⊥) → RefusesRead w cause) → RefusesRead w e
exits w cause P e (inl is) go = subst (RefusesRead w) (sym is) tt
exits w cause P e (inr f) go = subst (RefusesRead w) (sym f.0) (go f.1)

-- ---- what is written has its parts

-- texts whose names were read have names in their forms
has_name : (t : RelationshipText) (n : Names) → SaysNames t n → HasName t
has_name t n h = record {
  domain = subst IsDomainText h.domain h.is_domain;
  endpoint_domain = n.endpoint.domain;
  endpoint_path = n.endpoint.path;
  endpoint = subst (λ text. IsIdText text n.endpoint.domain n.endpoint.path) h.endpoint h.is_id;
}

-- the same for all relationships
pub names_in : (ts : List RelationshipText) (ns : List Names) → AllZip SaysNames ts ns → AllByRecursion HasName ts
names_in ts ns = each_left SaysNames HasName has_name ts ns

-- seeds whose domains were read have domain names in their form
pub domains_in : (es : List SeedEntry) (ds : List (List ℕ)) → AllZip (λ e d. SaysDomain (seed_text e) d) es ds
    → AllByRecursion (λ t. IsDomainText t.domain) (map seed_text es)
domains_in es ds zip = each_unmap (λ t. IsDomainText t.domain) seed_text es
    (each_left (λ e d. SaysDomain (seed_text e) d) (λ e. IsDomainText (seed_text e).domain)
    (λ e d h. subst IsDomainText h.same h.is) es ds zip)

-- relationships whose URLs were read have URLs that parse
pub urls_in : (ts : List RelationshipText) (us : List (List ℕ)) → AllZip SaysUrl ts us → AllByRecursion (λ t. (parts : Parts) × IsParsed t.url parts) ts
urls_in ts us = each_left SaysUrl (λ t. (parts : Parts) × IsParsed t.url parts) (λ t u h. (h.parts, h.parsed)) ts us

-- ---- joined

-- names and URLs that were read in two passes are together the relationships that are written
pub join_said : (ts : List RelationshipText) (ns : List Names) (us : List (List ℕ)) → AllZip SaysNames ts ns
    → AllZip SaysUrl ts us → AllByRecursion (λ t. IsProfile t.profile) ts
    → AllZip SaysRelationship ts (map joined_relationship (zip ns us))
join_said [] [] us names urls profiles = tt
join_said [] (n ∷ ns) us names urls profiles = absurd names
join_said (t ∷ ts) [] us names urls profiles = absurd names
join_said (t ∷ ts) (n ∷ ns) [] names urls profiles = absurd urls
join_said (t ∷ ts) (n ∷ ns) (u ∷ us) names urls profiles = (
  record { domain = names.0.domain; is_domain = names.0.is_domain; endpoint = names.0.endpoint; is_id = names.0.is_id; url = urls.0; profile = profiles.0 },
  join_said ts ns us names.1 urls.1 profiles.1,
)

-- domains and documents that were read in two passes are together the seeds that are written
pub join_seeds_said : (es : List SeedEntry) (ds : List (List ℕ)) (bs : List Bundle)
    → AllZip (λ e d. SaysDomain (seed_text e) d) es ds → AllZip (λ e b. SaysSeedDocument (seed_text e) b) es bs
    → AllZip (λ e s. SaysSeed (seed_text e) s) es (map joined_seed (zip ds bs))
join_seeds_said [] [] bs domains documents = tt
join_seeds_said [] (d ∷ ds) bs domains documents = absurd domains
join_seeds_said (e ∷ es) [] bs domains documents = absurd domains
join_seeds_said (e ∷ es) (d ∷ ds) [] domains documents = absurd documents
join_seeds_said (e ∷ es) (d ∷ ds) (b ∷ bs) domains documents = (
  record { domain = domains.0.same; is_domain = domains.0.is; means = documents.0.means; fits = documents.0.fits },
  join_seeds_said es ds bs domains.1 documents.1,
)

-- a relationship that is written well is one that a configuration can have
pub relationship_in : (t : RelationshipText) (r : Relationship) → SaysRelationship t r → IsRelationship r
relationship_in t r h = record { domain = h.is_domain; endpoint = h.is_id; url = (t.url, h.url) }

-- a seed that is written well is one that a configuration can have
pub seed_in : (t : SeedText) (s : Seed) → SaysSeed t s → IsSeed s
seed_in t s h = record { domain = h.is_domain; bundle = h.means.is; fits = h.fits }

-- a property of all elements of a list is one of all members of its set
pub each_of_set : {X : Type 0} (cmp : X → X → Ordering) (P : X → Type 0) (xs set : List X) → IsSetOf cmp xs set → AllByRecursion P xs → AllByRecursion P set
each_of_set cmp P xs set is each = each_from_has P set (λ x h. each_has P xs x each (Has-Contains xs x ((is.members x).0 (Contains-Has set x h))))

-- a list, put in another order that is strictly sorted, is the list of its set
pub set_of_sorted : (xs ys : List Relationship) → IsPermutation xs ys → IsStrictlySortedBy relationship_cmp ys → IsSetOf relationship_cmp xs ys
set_of_sorted xs ys moved rising = record {
  rising = rising;
  members = λ x. (λ h. Contains-permutation ys xs x (IsPermutation-sym xs ys moved) h, λ h. Contains-permutation xs ys x moved h);
}

-- ---- one relationship a domain

-- 1 for a relationship with the domain, and 0 for any other
abbrev one_if : List ℕ → Relationship → ℕ
one_if d r = cond (bytes_eq r.domain d) 1 0

-- each domain is that of one relationship at most
abbrev pub Single : List Relationship → Type 0
Single rs = (d : List ℕ) → count_by (λ r. bytes_eq r.domain d) rs ≤ 1

-- the same number of texts and of relationships have the domain
count_written : (ts : List RelationshipText) (rs : List Relationship) (d : List ℕ) → AllZip SaysRelationship ts rs
    → count_by (λ t. bytes_eq t.domain d) ts ≡ count_by (λ r. bytes_eq r.domain d) rs
count_written [] [] d zip = refl
count_written [] (r ∷ rs) d zip = absurd zip
count_written (t ∷ ts) [] d zip = absurd zip
count_written (t ∷ ts) (r ∷ rs) d zip =
    sum_by-cons (λ (x : RelationshipText). cond (bytes_eq x.domain d) 1 0) t ts
    ∙ ap₂ (λ m n. m + n) (ap (λ x. cond (bytes_eq x d) 1 0) (sym zip.0.domain)) (count_written ts rs d zip.1)
    ∙ sym (sum_by-cons (one_if d) r rs)

-- no relationship above one with the domain has it too
none_above : (r : Relationship) (rs : List Relationship) → AllByRecursion (λ s. relationship_cmp r s ≡ Less) rs
    → (d : List ℕ) → r.domain ≡ d → count_by (λ s. bytes_eq s.domain d) rs ≡ 0
none_above r [] all d is = refl
none_above r (s ∷ rs) all d is =
    let differ : bytes_eq s.domain d ≡ false = elim (cases_Bool (bytes_eq s.domain d)) [
      | inl same ↦ absurd (let domains : r.domain ≡ s.domain = is ∙ sym ((bytes_eq-Decides s.domain d).0 same) in
          let tied : relationship_cmp r s ≡ Equal = subst (λ (x : List ℕ). slice_cmp nat_cmp r.domain x ≡ Equal) domains (tied_itself relationships_total r) in
          let less = all.0 in cc)
      | inr other ↦ other
    ] in
    sum_by-cons (one_if d) s rs ∙ ap₂ (λ m n. m + n) (ap (λ b. cond b 1 0) differ) (none_above r rs all.1 d is)

-- strictly sorted relationships have different domains
strict_single : (rs : List Relationship) → IsStrictlySortedBy relationship_cmp rs → Single rs
unfolding IsStrictlySortedBy
strict_single [] rising d = omega arith
strict_single (r ∷ rs) rising d =
    let counts = sum_by-cons (one_if d) r rs in
    elim (cases_Bool (bytes_eq r.domain d)) [
      | inl same ↦ let none = none_above r rs rising.0 d ((bytes_eq-Decides r.domain d).0 same) in
          let one : one_if d r ≡ 1 = ap (λ b. cond b 1 0) same in omega arith
      | inr other ↦ let rest = strict_single rs rising.1 d in let zero_here : one_if d r ≡ 0 = ap (λ b. cond b 1 0) other in omega arith
    ]

-- if the sorted relationships are strictly sorted, no two that are written have one domain
pub single_in : (ts : List RelationshipText) (seeds : List SeedText) (floors : List Floor) (rs ys : List Relationship)
    → AllZip SaysRelationship ts rs → IsPermutation rs ys → IsStrictlySortedBy relationship_cmp ys
    → HasSingle (record { relationships = ts; seeds = seeds; floors = floors })
single_in ts seeds floors rs ys zip moved rising d =
    let counts : count_by (λ t. bytes_eq t.domain d) ts ≡ count_by (λ r. bytes_eq r.domain d) ys =
    count_written ts rs d zip ∙ sym (sum_by-IsPermutation (one_if d) rs ys moved) in
    let few = strict_single ys rising d in subst (λ n. n ≤ 1) (sym counts) few

-- two relationships with one domain are not all different
twice : (x y : Relationship) (rs : List Relationship) → bytes_eq x.domain y.domain ≡ true → Single (x ∷ y ∷ rs) → ⊥
twice x y rs same single =
    let first = sum_by-cons (one_if y.domain) x (y ∷ rs) in
    let second = sum_by-cons (one_if y.domain) y rs in
    let one : one_if y.domain x ≡ 1 = ap (λ b. cond b 1 0) same in
    let other : one_if y.domain y ≡ 1 = ap (λ b. cond b 1 0) ((bytes_eq-Decides y.domain y.domain).1 refl) in
    let few = single y.domain in omega arith

-- different domains are still different without the first relationship
tail_single : (x : Relationship) (rs : List Relationship) → Single (x ∷ rs) → Single rs
tail_single x rs single d = let counts = sum_by-cons (one_if d) x rs in let few = single d in omega arith

-- a sorted list is still sorted without its first relationship
tail_sorted : (x : Relationship) (rs : List Relationship) → IsSorted relationship_cmp (x ∷ rs) → IsSorted relationship_cmp rs
tail_sorted x rs sorted k d low below = let more : suc k + 1 ≡ suc (k + 1) = omega arith in
    subst (λ n. is_lt (relationship_cmp (get_or (x ∷ rs) n d) (get_or rs k d)) ≡ false) more
    (sorted (suc k) d (omega arith) (omega arith))

-- in a sorted list of different domains the first is below the second
next_below : (x y : Relationship) (rs : List Relationship) → IsSorted relationship_cmp (x ∷ y ∷ rs) → Single (x ∷ y ∷ rs) → relationship_cmp x y ≡ Less
next_below x y rs sorted single =
    let differ : bytes_eq x.domain y.domain ≡ false =
    elim (cases_Bool (bytes_eq x.domain y.domain))
    [ inl same ↦ absurd (twice x y rs same single) | inr other ↦ other ] in
    below_by x y (relationship_cmp x y) refl (sorted 0 x (omega arith) (omega arith)) differ

-- a sorted list of different domains is strictly sorted
sorted_strict : (rs : List Relationship) → IsSorted relationship_cmp rs → Single rs → IsStrictlySortedBy relationship_cmp rs
unfolding IsStrictlySortedBy
sorted_strict [] sorted single = tt
sorted_strict (x ∷ []) sorted single = (tt, tt)
sorted_strict (x ∷ y ∷ rs) sorted single =
    let rest = sorted_strict (y ∷ rs) (tail_sorted x (y ∷ rs) sorted) (tail_single x (y ∷ rs) single) in
    let first = next_below x y rs sorted single in
    ((first, below_all x y rs first rest.0), rest)

-- if the sorted relationships are not strictly sorted, two that are written have one domain
pub not_single_in : (ts : List RelationshipText) (seeds : List SeedText) (floors : List Floor) (rs ys : List Relationship)
    → AllZip SaysRelationship ts rs → IsPermutation rs ys → IsSorted relationship_cmp ys
    → (IsStrictlySortedBy relationship_cmp ys → ⊥) → HasSingle (record { relationships = ts; seeds = seeds; floors = floors }) → ⊥
not_single_in ts seeds floors rs ys zip moved sorted none single =
    none (sorted_strict ys sorted (λ d. subst (λ n. n ≤ 1) (count_written ts rs d zip ∙ sym (sum_by-IsPermutation (one_if d) rs ys moved)) (single d)))

-- ---- floors

-- what holds of each element shows what follows from it of each
pub each_implies : {X : Type 0} (P Q : X → Type 0) → ((x : X) → P x → Q x) → (xs : List X) → AllByRecursion P xs → AllByRecursion Q xs
each_implies P Q go [] each = tt
each_implies P Q go (x ∷ xs) each = (go x each.0, each_implies P Q go xs each.1)

-- a text has one ID at most: a law of `spiffe_name`
abbrev pub OneId : Type 0
OneId = (one other : Id) → IsId one → IsId other → one.text ≡ other.text → one ≡ other

-- a value means one bundle at most: a law of `bundle_doc`
abbrev pub OneBundle : Type 0
OneBundle = (value : Data) (b c : Bundle) → Means value b → Means value c → b ≡ c

-- a relationship's text names the domain, by its own or by its endpoint's
abbrev NamesIt : RelationshipText → List ℕ → Type 0
NamesIt t d = (t.domain ≡ d) ⊎ ((path : List ℕ) × IsIdText t.endpoint d path)

-- each domain that was read is named by a relationship's text
named_by : (ts : List RelationshipText) (ns : List Names) → AllZip SaysNames ts ns → (d : List ℕ) → Has (flat_map both_domains ns) d
    → (t : RelationshipText) × Has ts t × NamesIt t d
named_by [] [] zip d h = absurd h
named_by [] (n ∷ ns) zip d h = absurd zip
named_by (t ∷ ts) [] zip d h = absurd zip
named_by (t ∷ ts) (n ∷ ns) zip d (inl e) = (t, inl refl, inl (sym zip.0.domain ∙ sym e))
named_by (t ∷ ts) (n ∷ ns) zip d (inr (inl e)) = (
  t,
  inl refl,
  inr (
    n.endpoint.path,
    subst (λ x. IsIdText t.endpoint x n.endpoint.path) (sym e)
        (subst (λ text. IsIdText text n.endpoint.domain n.endpoint.path) zip.0.endpoint zip.0.is_id),
  ),
)
named_by (t ∷ ts) (n ∷ ns) zip d (inr (inr h)) = let rest = named_by ts ns zip.1 d h in (rest.0, inr rest.1, rest.2)

-- each domain that is named by a relationship's text was read
read_of : OneId → (ts : List RelationshipText) (ns : List Names) → AllZip SaysNames ts ns → (t : RelationshipText) (d : List ℕ)
    → Has ts t → NamesIt t d → Has (flat_map both_domains ns) d
read_of one [] [] zip t d h named = absurd h
read_of one [] (n ∷ ns) zip t d h named = absurd zip
read_of one (u ∷ ts) [] zip t d h named = absurd zip
read_of one (u ∷ ts) (n ∷ ns) zip t d (inr h) named = inr (inr (read_of one ts ns zip.1 t d h named))
read_of one (u ∷ ts) (n ∷ ns) zip t d (inl same) (inl own) =
    inl (sym own ∙ ap (λ (x : RelationshipText). x.domain) same ∙ sym zip.0.domain)
read_of one (u ∷ ts) (n ∷ ns) zip t d (inl same) (inr of) =
    let id : Id = record { text = t.endpoint; domain = d; path = of.0 } in
    let ids : id ≡ n.endpoint = one id n.endpoint of.1 zip.0.is_id (ap (λ (x : RelationshipText). x.endpoint) same ∙ sym zip.0.endpoint) in
    inr (inl (ap (λ (x : Id). x.domain) ids))

-- each domain that was read for a seed is that of a seed's text, and the other way round
seed_named : (es : List SeedEntry) (ds : List (List ℕ)) → AllZip (λ e d. SaysDomain (seed_text e) d) es ds → (d : List ℕ) → Has ds d
    → (t : SeedText) × Has (map seed_text es) t × (t.domain ≡ d)
seed_named [] [] zip d h = absurd h
seed_named [] (x ∷ ds) zip d h = absurd zip
seed_named (e ∷ es) [] zip d h = absurd zip
seed_named (e ∷ es) (x ∷ ds) zip d (inl same) = (seed_text e, inl refl, sym zip.0.same ∙ sym same)
seed_named (e ∷ es) (x ∷ ds) zip d (inr h) = let rest = seed_named es ds zip.1 d h in (rest.0, inr rest.1, rest.2)

seed_read : (es : List SeedEntry) (ds : List (List ℕ)) → AllZip (λ e d. SaysDomain (seed_text e) d) es ds → (t : SeedText)
    → Has (map seed_text es) t → Has ds t.domain
seed_read [] [] zip t h = absurd h
seed_read [] (x ∷ ds) zip t h = absurd zip
seed_read (e ∷ es) [] zip t h = absurd zip
seed_read (e ∷ es) (x ∷ ds) zip t (inl same) = inl (ap (λ (y : SeedText). y.domain) same ∙ sym zip.0.same)
seed_read (e ∷ es) (x ∷ ds) zip t (inr h) = inr (seed_read es ds zip.1 t h)

-- the domains of a configuration are domain names
domain_text : (c : Configuration) (d : List ℕ) → AllByRecursion IsRelationship c.relationships → AllByRecursion IsSeed c.seeds → HasDomain c d → IsDomainText d
domain_text c d rs ss (inl p) = subst IsDomainText p.2 (each_has IsRelationship c.relationships p.0 rs (Has-Contains c.relationships p.0 p.1)).domain
domain_text c d rs ss (inr (inl p)) =
    subst IsDomainText p.2 (each_has IsRelationship c.relationships p.0 rs (Has-Contains c.relationships p.0 p.1)).endpoint.is_domain
domain_text c d rs ss (inr (inr p)) = subst IsDomainText p.2 (each_has IsSeed c.seeds p.0 ss (Has-Contains c.seeds p.0 p.1)).domain

-- what two properties hold of each element together
both_each : {X : Type 0} (P Q R : X → Type 0) → ((x : X) → P x → Q x → R x) → (xs : List X) → AllByRecursion P xs → AllByRecursion Q xs → AllByRecursion R xs
both_each P Q R go [] p q = tt
both_each P Q R go (x ∷ xs) p q = (go x p.0 q.0, both_each P Q R go xs p.1 q.1)

-- seeds that reach their floors are written as such
pub reaching_in : (fs : List Floor) (ts : List SeedText) (ss : List Seed) → AllZip SaysSeed ts ss → AllByRecursion (λ s. ReachesEach fs s.domain s.document) ss
    → AllByRecursion (IsSeedText fs) ts
reaching_in fs [] [] zip each = tt
reaching_in fs [] (s ∷ ss) zip each = absurd zip
reaching_in fs (t ∷ ts) [] zip each = absurd zip
reaching_in fs (t ∷ ts) (s ∷ ss) zip each = (
  record {
    document = s.document;
    means = zip.0.means;
    fits = zip.0.fits;
    reaches = subst (λ d. ReachesEach fs d s.document) zip.0.domain each.0;
  },
  reaching_in fs ts ss zip.1 each.1,
)

-- seeds that are written as such reach their floors
reaching_out : OneBundle → (fs : List Floor) (ts : List SeedText) (ss : List Seed) → AllZip SaysSeed ts ss → AllByRecursion (IsSeedText fs) ts
    → AllByRecursion (λ s. ReachesEach fs s.domain s.document) ss
reaching_out one fs [] [] zip each = tt
reaching_out one fs [] (s ∷ ss) zip each = absurd zip
reaching_out one fs (t ∷ ts) [] zip each = absurd zip
reaching_out one fs (t ∷ ts) (s ∷ ss) zip each = (
  subst (λ d. ReachesEach fs d s.document) (sym zip.0.domain)
      (subst (ReachesEach fs t.domain) (one t.bundle each.0.document s.document each.0.means zip.0.means) each.0.reaches),
  reaching_out one fs ts ss zip.1 each.1,
)

-- ---- all parts

-- what is written, from the texts and entries that the code holds
abbrev pub written : List RelationshipText → List SeedEntry → List Floor → Written
written ts es fs = record { relationships = ts; seeds = map seed_text es; floors = fs }

-- an image is as long as its list
pub map_length : {X Y : Type 0} (f : X → Y) (xs : List X) → length (map f xs) ≡ length xs
map_length f [] = refl
map_length f (x ∷ xs) = ap suc (map_length f xs)

-- what is said of a slice's elements is said of the list that it shows
pub zip_at_slice : {X Y : Type 0} (R : X → Y → Type 0) (slice xs : List X) (ys : List Y) → slice ≡ xs → AllZip R slice ys → AllZip R xs ys
zip_at_slice R slice xs ys e zip = subst (λ l. AllZip R l ys) e zip

-- what holds of each element of a list holds of the slice that shows it
pub each_at_slice : {X : Type 0} (P : X → Type 0) (slice xs : List X) → slice ≡ xs → AllByRecursion P xs → AllByRecursion P slice
each_at_slice P slice xs e each = subst (AllByRecursion P) (sym e) each

-- The names that were read: those of relationships, the domains of seeds, and the set of the domains
-- of both.
pub record HasRead (ts : List RelationshipText) (es : List SeedEntry) (ns : List Names) (ds all : List (List ℕ)) : Type 0 where
  pub names : AllZip SaysNames ts ns
  pub domains : AllZip (λ e d. SaysDomain (seed_text e) d) es ds
  pub set : IsSetOf domain_cmp (gathered ns ds) all

-- the same for the slices that lend them
pub read_slices : (ts slice_ts : List RelationshipText) (es slice_es : List SeedEntry) (ns slice_ns : List Names) (ds slice_ds all : List (List ℕ))
    → slice_ts ≡ ts → slice_es ≡ es → slice_ns ≡ ns → slice_ds ≡ ds
    → AllZip SaysNames slice_ts ns → AllZip (λ e d. SaysDomain (seed_text e) d) slice_es ds → IsSetOf domain_cmp (gathered slice_ns slice_ds) all
    → HasRead ts es ns ds all
read_slices ts slice_ts es slice_es ns slice_ns ds slice_ds all p q r t names domains set = record {
  names = zip_at_slice SaysNames slice_ts ts ns p names;
  domains = zip_at_slice (λ e d. SaysDomain (seed_text e) d) slice_es es ds q domains;
  set = subst (λ l. IsSetOf domain_cmp l all) (ap₂ gathered r t) set;
}

-- what is said of the slices of floors and domains is said of their lists, and the other way round
pub known_slices : (fs slice_fs : List Floor) (all slice_all : List (List ℕ)) → slice_fs ≡ fs → slice_all ≡ all
    → AllByRecursion (λ f. Contains slice_all f.domain) slice_fs → AllByRecursion (λ f. Contains all f.domain) fs
known_slices fs slice_fs all slice_all p q known =
    subst (λ l. AllByRecursion (λ f. Contains all f.domain) l) p (subst (λ l. AllByRecursion (λ f. Contains l f.domain) slice_fs) q known)

pub unknown_slices : (fs slice_fs : List Floor) (all slice_all : List (List ℕ)) → slice_fs ≡ fs → slice_all ≡ all
    → AllByRecursion (λ f. Contains all f.domain) fs → AllByRecursion (λ f. Contains slice_all f.domain) slice_fs
unknown_slices fs slice_fs all slice_all p q known =
    subst (λ l. AllByRecursion (λ f. Contains slice_all f.domain) l) (sym p) (subst (λ l. AllByRecursion (λ f. Contains l f.domain) fs) (sym q) known)

-- the same for floors and seeds
pub reach_slices : (fs slice_fs : List Floor) (ss slice_ss : List Seed) → slice_fs ≡ fs → slice_ss ≡ ss
    → AllByRecursion (λ s. ReachesEach slice_fs s.domain s.document) slice_ss → AllByRecursion (λ s. ReachesEach fs s.domain s.document) ss
reach_slices fs slice_fs ss slice_ss p q reach =
    subst (AllByRecursion (λ s. ReachesEach fs s.domain s.document)) q
    (subst (λ l. AllByRecursion (λ s. ReachesEach l s.domain s.document) slice_ss) p reach)

pub low_slices : (fs slice_fs : List Floor) (ss slice_ss : List Seed) → slice_fs ≡ fs → slice_ss ≡ ss
    → AllByRecursion (λ s. ReachesEach fs s.domain s.document) ss → AllByRecursion (λ s. ReachesEach slice_fs s.domain s.document) slice_ss
low_slices fs slice_fs ss slice_ss p q reach =
    subst (AllByRecursion (λ s. ReachesEach slice_fs s.domain s.document)) (sym q)
    (subst (λ l. AllByRecursion (λ s. ReachesEach l s.domain s.document) ss) (sym p) reach)

-- seeds that are written well have documents
pub document_of : (fs : List Floor) (es : List SeedEntry) → AllByRecursion (IsSeedText fs) (map seed_text es)
    → AllByRecursion (λ e. (b : Bundle) × Means (seed_text e).bundle b × Fits b) es
document_of fs [] each = tt
document_of fs (e ∷ es) each = ((each.0.document, each.0.means, each.0.fits), document_of fs es each.1)

module _ (ts : List RelationshipText) (es : List SeedEntry) (fs : List Floor) (ns : List Names) (ds all : List (List ℕ)) (read : HasRead ts es ns ds all) where
  -- a domain that was read is one that is named
  pub domain_named : (d : List ℕ) → Contains all d → NamesDomain (written ts es fs) d
  domain_named d h = elim (either (flat_map both_domains ns) ds d (Has-Contains (gathered ns ds) d ((read.set.members d).0 h))) [
    | inl l ↦ let p = named_by ts ns read.names d l in elim p.2 [
      | inl own ↦ inl (p.0, Contains-Has ts p.0 p.1, own)
      | inr of ↦ inr (inl (p.0, Contains-Has ts p.0 p.1, of.0, of.1))
    ]
    | inr r ↦ let p = seed_named es ds read.domains d r in inr (inr (p.0, Contains-Has (map seed_text es) p.0 p.1, p.2))
  ]

  -- a domain that is named was read
  pub was_read : OneId → (d : List ℕ) → NamesDomain (written ts es fs) d → Contains all d
  was_read one d (inl p) = (read.set.members d).1 (Contains-Has (gathered ns ds) d
      (left (flat_map both_domains ns) ds d (read_of one ts ns read.names p.0 d (Has-Contains ts p.0 p.1) (inl p.2))))
  was_read one d (inr (inl p)) = (read.set.members d).1 (Contains-Has (gathered ns ds) d
      (left (flat_map both_domains ns) ds d (read_of one ts ns read.names p.0 d (Has-Contains ts p.0 p.1) (inr (p.2, p.3)))))
  was_read one d (inr (inr p)) = (read.set.members d).1 (Contains-Has (gathered ns ds) d
      (right (flat_map both_domains ns) ds d (subst (Has ds) p.2 (seed_read es ds read.domains p.0 (Has-Contains (map seed_text es) p.0 p.1)))))

  -- a floor of a domain that was not read refuses what is written
  pub bad_floor : OneId → (AllByRecursion (λ f. Contains all f.domain) fs → ⊥) → RefusesWritten (written ts es fs) BadName
  bad_floor one none = record {
    passed = tt;
    failed = λ h. none (each_implies _ (λ f. Contains all f.domain) (λ f named_it. was_read one f.domain named_it) fs h.floors);
  }

  module _ (known : AllByRecursion (λ f. Contains all f.domain) fs) where
    -- all names that are written were read, so the first test is passed
    pub has_names : HasNames (written ts es fs)
    has_names = record {
      relationships = names_in ts ns read.names;
      seeds = domains_in es ds read.domains;
      floors = each_implies (λ f. Contains all f.domain) _ (λ f here. domain_named f.domain here) fs known;
    }

    -- a URL that cannot be read refuses what is written, since the names are passed
    pub bad_url : (HasUrls (written ts es fs) → ⊥) → RefusesWritten (written ts es fs) BadUrl
    bad_url none = record { passed = (has_names, tt); failed = none }

    module _ (us : List (List ℕ)) (urls : AllZip SaysUrl ts us) where
      -- another profile refuses what is written, since names and URLs are passed
      pub bad_profile : (HasProfiles (written ts es fs) → ⊥) → RefusesWritten (written ts es fs) BadProfile
      bad_profile none = record { passed = (has_names, (urls_in ts us urls, tt)); failed = none }

      module _ (profiles : HasProfiles (written ts es fs)) (rs : List Relationship) (joined : rs ≡ map joined_relationship (zip ns us)) where
        -- the joined relationships are those that are written
        pub said : AllZip SaysRelationship ts rs
        said = subst (AllZip SaysRelationship ts) (sym joined) (join_said ts ns us read.names urls profiles)

        module _ (ys : List Relationship) (moved : IsPermutation rs ys) where
          -- a second relationship of a domain refuses what is written, since all tests before are
          -- passed
          pub double : IsSorted relationship_cmp ys → (IsStrictlySortedBy relationship_cmp ys → ⊥) → RefusesWritten (written ts es fs) DoubleRelationship
          double sorted none = record {
            passed = (has_names, (urls_in ts us urls, (profiles, tt)));
            failed = not_single_in ts (map seed_text es) fs rs ys said moved sorted none;
          }

          module _ (rising : IsStrictlySortedBy relationship_cmp ys) where
            -- strictly sorted relationships pass the test for a second one
            pub single : HasSingle (written ts es fs)
            single = single_in ts (map seed_text es) fs rs ys said moved rising

            -- a seed that is not a document, or that is below its floor, refuses what is written,
            -- since all tests before are passed
            pub bad_seed : (HasDocuments (written ts es fs) → ⊥) → RefusesWritten (written ts es fs) BadSeed
            bad_seed none = record { passed = (has_names, (urls_in ts us urls, (profiles, (single, tt)))); failed = none }

            module _ (bs : List Bundle) (documents : AllZip (λ e b. SaysSeedDocument (seed_text e) b) es bs)
                (ss : List Seed) (joined_ss : ss ≡ map joined_seed (zip ds bs)) where
              -- the joined seeds are those that are written
              said_seeds : AllZip (λ e s. SaysSeed (seed_text e) s) es ss
              said_seeds = subst (AllZip (λ e s. SaysSeed (seed_text e) s) es) (sym joined_ss) (join_seeds_said es ds bs read.domains documents)

              -- each joined seed is one that a configuration can have
              pub are_seeds : AllByRecursion IsSeed ss
              are_seeds = each_right (λ e s. SaysSeed (seed_text e) s) IsSeed (λ e s h. seed_in (seed_text e) s h) es ss said_seeds

              -- a seed that does not reach its floor refuses what is written
              pub low_seed : OneBundle → (AllByRecursion (λ s. ReachesEach fs s.domain s.document) ss → ⊥) → RefusesWritten (written ts es fs) BadSeed
              low_seed one none = bad_seed (λ h. none (reaching_out one fs (map seed_text es) ss (zip_map SaysSeed seed_text es ss said_seeds) h))

              module _ (reach : AllByRecursion (λ s. ReachesEach fs s.domain s.document) ss) where
                -- the joined seeds pass the test of documents
                has_documents : HasDocuments (written ts es fs)
                has_documents = reaching_in fs (map seed_text es) ss (zip_map SaysSeed seed_text es ss said_seeds) reach

                -- too many of something refuse what is written, since all tests before are passed
                pub too_many : (HasFew (written ts es fs) → ⊥) → RefusesWritten (written ts es fs) TooMany
                too_many none = record { passed = (has_names, (urls_in ts us urls, (profiles, (single, (has_documents, tt))))); failed = none }

                module _ (few : length ts ≤ 1024) (few_seeds : length es ≤ 4096)
                    (zs : List Seed) (set : IsSetOf seed_cmp ss zs) (bound : length zs ≤ length ss) (form : AreFloors fs) where
                  -- the configuration of the sorted lists
                  abbrev of : Configuration
                  of = record { relationships = ys; seeds = zs; floors = fs; limits = usual_limits }

                  -- its relationships are the set of those that are written
                  relationship_set : IsSetOf relationship_cmp rs ys
                  relationship_set = set_of_sorted rs ys moved rising

                  -- its domains are those that were read
                  pub domains_of : AreDomains of all
                  domains_of =
                      are_domains ns us ds bs rs ys ss zs fs joined joined_ss relationship_set set
                      (sym (zip_length SaysNames ts ns read.names) ∙ zip_length SaysUrl ts us urls)
                      (sym (zip_length _ es ds read.domains) ∙ zip_length _ es bs documents) all read.set

                  -- each relationship and each seed of it is in its form
                  each_relationship : AllByRecursion IsRelationship ys
                  each_relationship =
                      each_of_set relationship_cmp IsRelationship rs ys relationship_set
                      (each_right SaysRelationship IsRelationship relationship_in ts rs said)

                  each_seed : AllByRecursion IsSeed zs
                  each_seed = each_of_set seed_cmp IsSeed ss zs set are_seeds

                  -- each floor is one of a domain of the configuration
                  floor_in : (f : Floor) → Contains all f.domain → f.sequence < 2 ^ 64 → IsFloor of f
                  floor_in f here fits = let has = domains_of.sound f.domain here in record {
                    domain = domain_text of f.domain each_relationship each_seed has;
                    known = has;
                    sequence = fits;
                  }

                  -- it is a configuration, except for the number of its domains
                  pub are_sets : HasRisingLists of
                  are_sets = record {
                    rising_relationships = rising;
                    rising_seeds = set.rising;
                    rising_floors = form.rising;
                    each_relationship = each_relationship;
                    each_seed = each_seed;
                    each_floor = both_each (λ f. Contains all f.domain) (λ f. f.sequence < 2 ^ 64) (IsFloor of) floor_in fs known form.fit;
                    each_seed_reaches = each_of_set seed_cmp (λ s. ReachesEach fs s.domain s.document) ss zs set reach;
                    few_relationships = let l = length_permutation rs ys moved in let m = zip_length SaysRelationship ts rs said in omega arith;
                    few_seeds = let m = zip_length (λ e s. SaysSeed (seed_text e) s) es ss said_seeds in omega arith;
                  }

                  -- it is what is written
                  meant : IsMeant (written ts es fs) of
                  meant = record {
                    relationships = rs;
                    each_relationship = said;
                    relationship_set = relationship_set;
                    seeds = ss;
                    each_seed = zip_map SaysSeed seed_text es ss said_seeds;
                    seed_set = set;
                    same_floors = refl;
                    usual = refl;
                  }

                  -- the last test, of the number of domains, decides whether what is written is this
                  -- configuration or too much
                  pub finish : (r : Result Configuration ConfigError)
                      → MatchResult r (λ c. (c ≡ of) × IsConfiguration c) (Fails TooMany (HasFewDomains of))
                      → MatchResult r (IsRead (written ts es fs)) (RefusesRead (written ts es fs))
                  finish (Ok c) h = record {
                    meant = subst (IsMeant (written ts es fs)) (sym h.0) meant;
                    single = single;
                    few_relationships = few;
                    few_seeds = subst (λ n. n ≤ 4096) (sym (map_length seed_text es)) few_seeds;
                    is = h.1;
                  }
                  finish (Err e) h =
                      exits (written ts es fs) TooMany (HasFewDomains of) e h
                      (λ none. too_many (λ few_all. none (λ domains are. few_all.domains of domains meant are)))
