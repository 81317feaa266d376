-- The canonical text of a configuration is a text of it, and of no other.
use Rattle.std.proofs.Common.{◌≡◌, ℕ, ◌≤◌, ◌↔◌, inl, inr, List, [], ◌∷◌, length, map, true, Less, None, Ok, codes, IsAscii, refl, sym, ap, ap₂, subst, arith}
use Rattle.std.specs.List.{AllByRecursion, AllZip}
use Rattle.std.specs.List.Sorted.{IsStrictlySortedBy}
use Rattle.std.specs.Str.{IsUtf8}
use Rattle.std.specs.declared.cmp.Ordering.{Ordering}
use Rattle.std.proofs.lemmas.Str.{IsUtf8-from_ascii}
use Rattle.std.proofs.lemmas.List.Sorted.{IsPermutation-refl}
use Rattle.json.proofs.Printed.Utf8.{are_ascii, IsUtf8-are_ascii}
use Rattle.serde_json.specs.Data.{Data, Members, object, depth, items_depth, members_depth}
use Rattle.serde_json.specs.Read.{max_depth}
use Rattle.serde_json.specs.View.{items_of}
use Rattle.serde_json.specs.Written.{compact_text}
use Rattle.url.specs.Parser.{parse_url}
use Rattle.url.specs.Parts.{Parts, kind_of}
use Rattle.url.specs.Scheme.{default_port, scheme_type}
use Rattle.url.specs.declared.scheme.SchemeType.TheVariants.{SpecialNotFile}
use Rattle.url.proofs.Theorems.{parse_url-serialize_special}
use Rattle.url.proofs.ValidLemmas.{IsAscii-serialize}
use Rattle.jwk_set.specs.Json.{IsJson, IsBelowNames, IsPlain, ArePlain, HasPlainMembers}
use Rattle.spiffe_name.specs.Bytes.{IsPlainText}
use Rattle.spiffe_name.specs.SpiffeId.{Id, IsId}
use Rattle.spiffe_name.specs.TrustDomain.{IsDomainText}
use Rattle.bundle_doc.specs.Bundle.{Bundle, IsBundle, Means, canonical_text, document_tree}
use Rattle.fed_config.specs.EndpointUrl.{IsEndpointUrl, KeepsUrl}
use Rattle.fed_config.specs.Written.{RelationshipText, SeedText, Written, SaysRelationshipText, SaysSeedText, SaysWritten, IsText}
use Rattle.fed_config.specs.Configuration.{Configuration, HasShortUrls, IsConfiguration, IsFloor, IsRelationship, IsSeed}
use Rattle.fed_config.specs.Configuration.{config_text, config_tree, floor_cmp, floor_members, relationship_tree, seed_tree, set_members, with_floors}
use Rattle.fed_config.specs.Reading.{IsConfig, IsMeant, IsSetOf, SaysRelationship, SaysSeed}
use Rattle.fed_config.specs.declared.floor.Floor.{Floor}
use Rattle.fed_config.specs.declared.floor.Floor.{Floor}
use Rattle.fed_config.specs.declared.relationship.Relationship.{Relationship}
use Rattle.fed_config.specs.declared.seed.Seed.{Seed}
use Rattle.fed_config.proofs.MeaningFacts.{same_written}
use Rattle.fed_config.proofs.ReadFacts.{map_length, single_in}
use Rattle.fed_config.specs.declared.limits.Limits.{Limits}
use Rattle.fed_config.specs.Limits.{usual_limits}
use Rattle.fed_config.proofs.LimitFacts.{IsConfiguration-limits}

-- ---- what the canonical text writes

-- a configuration from its parts
abbrev configuration_of : List Relationship → List Seed → List Floor → Limits → Configuration
configuration_of relationships seeds floors limits = record { relationships = relationships; seeds = seeds; floors = floors; limits = limits }

-- the configuration with the usual limits
abbrev usual : Configuration → Configuration
usual c = record c { limits = usual_limits }

-- a relationship as it is written in the canonical text
text_of : Relationship → RelationshipText
text_of r = record { domain = r.domain; endpoint = r.endpoint.text; profile = codes "https_spiffe"; url = r.url }

-- a seed as it is written in the canonical text
seed_text_of : Seed → SeedText
seed_text_of s = record { bundle = document_tree s.document; domain = s.domain }

-- a configuration as it is written in the canonical text
texts_of : Configuration → Written
texts_of c = record { relationships = map text_of c.relationships; seeds = map seed_text_of c.seeds; floors = c.floors }

-- the objects of relationships say their texts
each_relationship_text : (rs : List Relationship) → AllZip SaysRelationshipText (map relationship_tree rs) (map text_of rs)
unfolding text_of
each_relationship_text [] = tt
each_relationship_text (r ∷ rs) = (record { count = (_, refl, refl); domain = refl; endpoint = refl; profile = refl; url = refl }, each_relationship_text rs)

-- the objects of seeds say their texts
each_seed_text : (ss : List Seed) → AllZip SaysSeedText (map seed_tree ss) (map seed_text_of ss)
unfolding seed_text_of
each_seed_text [] = tt
each_seed_text (s ∷ ss) = (record { count = (_, refl, refl); bundle = refl; domain = refl }, each_seed_text ss)

-- the value of a configuration says its texts, and has a third member if there are floors
says_parts : (rs : List Relationship) (ss : List Seed) (fs : List Floor) (limits : Limits)
    → SaysWritten (config_tree (configuration_of rs ss fs limits)) (texts_of (configuration_of rs ss fs limits))
unfolding texts_of
says_parts rs ss [] limits = record {
  floors = inl ((_, refl, refl), refl);
  relationships = map relationship_tree rs;
  has_relationships = refl;
  each_relationship = each_relationship_text rs;
  seeds = map seed_tree ss;
  has_seeds = refl;
  each_seed = each_seed_text ss;
}
says_parts rs ss (f ∷ fs) limits = record {
  floors = inr ((_, refl, refl), refl);
  relationships = map relationship_tree rs;
  has_relationships = refl;
  each_relationship = each_relationship_text rs;
  seeds = map seed_tree ss;
  has_seeds = refl;
  each_seed = each_seed_text ss;
}

says_texts : (c : Configuration) → SaysWritten (config_tree c) (texts_of c)
says_texts c = says_parts c.relationships c.seeds c.floors c.limits

-- a text whose bytes pass the test for ASCII is UTF-8: for the names of members
ascii : (t : List ℕ) → are_ascii t ≡ true → IsUtf8 t
ascii = IsUtf8-are_ascii

-- ---- how deep it nests

-- the objects of relationships nest one level deep
shallow_relationships : (rs : List Relationship) → items_depth (items_of (map relationship_tree rs)) ≤ 1
shallow_relationships [] = omega arith
shallow_relationships (r ∷ rs) = omega (arith, shallow_relationships rs)

-- the object of floors nests one level deep
flat_floors : (fs : List Floor) → members_depth (floor_members fs) ≤ 0
flat_floors [] = omega arith
flat_floors (f ∷ fs) = omega (arith, flat_floors fs)

-- together with other members it nests no deeper than one level, or these
shallow_floors : (fs : List Floor) (others : Members) (n : ℕ) → 1 ≤ n → members_depth others ≤ n → members_depth (with_floors fs others) ≤ n
shallow_floors [] others n some h = h
shallow_floors (f ∷ fs) others n some h = omega (arith, flat_floors (f ∷ fs), h, some)

-- ---- URLs

-- a kept URL is UTF-8
url_utf8 : (url : List ℕ) → IsEndpointUrl url → IsUtf8 url
url_utf8 url h =
    let keeps : KeepsUrl h.0 url = h.1 in
    IsUtf8-from_ascii url (subst IsAscii (sym keeps.serialized) (IsAscii-serialize keeps.parts keeps.valid))

-- a URL with the scheme `https` is a special one, so that its own text parses to the same parts
https_kind : (parts : Parts) → parts.scheme ≡ codes "https" → kind_of parts ≡ SpecialNotFile
unfolding default_port scheme_type
https_kind parts scheme = ap scheme_type scheme

-- a kept URL within the limit is kept as it is
keeps_itself : (url : List ℕ) → IsEndpointUrl url → length url ≤ 2048 → KeepsUrl url url
keeps_itself url h short =
    let keeps : KeepsUrl h.0 url = h.1 in
    let again = parse_url-serialize_special keeps.parts None keeps.valid (https_kind keeps.parts keeps.parsed.scheme) in
    record {
      parts = keeps.parts;
      parsed = record {
        limit = short;
        parses = subst (λ t. parse_url None t ≡ Ok keeps.parts) (sym keeps.serialized) again;
        scheme = keeps.parsed.scheme;
        username = keeps.parsed.username;
        password = keeps.parsed.password;
      };
      valid = keeps.valid;
      serialized = keeps.serialized;
    }

-- ---- lists of one image

-- lists with equal images are equal, if elements with the property and with equal images are
map_one : {X Y : Type 0} (P : X → Type 0) (f : X → Y) → ((x y : X) → P x → P y → f x ≡ f y → x ≡ y) → (xs ys : List X)
    → AllByRecursion P xs → AllByRecursion P ys → map f xs ≡ map f ys → xs ≡ ys
map_one P f one [] [] p q e = refl
map_one P f one [] (y ∷ ys) p q e = absurd (cc)
map_one P f one (x ∷ xs) [] p q e = absurd (cc)
map_one P f one (x ∷ xs) (y ∷ ys) p q e =
    let first : f x ≡ f y = cc in
    let rest : map f xs ≡ map f ys = cc in
    ap₂ (λ z l. z ∷ l) (one x y p.0 q.0 first) (map_one P f one xs ys p.1 q.1 rest)

-- a relationship from its parts
relationship_of : List ℕ → Id → List ℕ → Relationship
relationship_of domain endpoint url = record { domain = domain; endpoint = endpoint; url = url }

-- a seed from its parts
seed_from : List ℕ → Bundle → Seed
seed_from domain document = record { domain = domain; document = document }

-- relationships with equal parts are equal
same_relationship : (r s : Relationship) → r.domain ≡ s.domain → r.endpoint ≡ s.endpoint → r.url ≡ s.url → r ≡ s
unfolding relationship_of
same_relationship r s a b c = let same : relationship_of r.domain r.endpoint r.url ≡ relationship_of s.domain s.endpoint s.url = cc in same

-- seeds with equal parts are equal
same_seed : (s u : Seed) → s.domain ≡ u.domain → s.document ≡ u.document → s ≡ u
unfolding seed_from
same_seed s u a b = let same : seed_from s.domain s.document ≡ seed_from u.domain u.document = cc in same

-- configurations with equal parts are equal
same_configuration : (b c : Configuration) → b.relationships ≡ c.relationships → b.seeds ≡ c.seeds → b.floors ≡ c.floors
    → b.limits ≡ c.limits → b ≡ c
same_configuration b c p q r l =
    let same : configuration_of b.relationships b.seeds b.floors b.limits ≡ configuration_of c.relationships c.seeds c.floors c.limits = cc in
    same

-- a strictly sorted list is the list of its own set
itself : {X : Type 0} (cmp : X → X → Ordering) (xs : List X) → IsStrictlySortedBy cmp xs → IsSetOf cmp xs xs
itself cmp xs rising = record { rising = rising; members = λ x. (λ h. h, λ h. h) }

-- a floor that is below others has a name below theirs
below_each : (f : Floor) (fs : List Floor) → AllByRecursion (λ g. floor_cmp f g ≡ Less) fs → IsBelowNames f.domain (floor_members fs)
below_each f [] below = tt
below_each f (g ∷ fs) below = (below.0, below_each f fs below.1)

-- what is written is plain
module _ (plain_domain : (text : List ℕ) → IsDomainText text → IsPlainText text) (plain_id : (id : Id) → IsId id
    → IsPlainText id.text) (plain_document : (b : Bundle) → IsBundle b
    → IsPlain (document_tree b)) (shallow_document : (b : Bundle) → depth (document_tree b) ≤ 4) (reads : (value : Data)
    → IsPlain value → depth value ≤ max_depth → IsJson (compact_text value) value) where
  -- the object of a relationship is a plain value
  plain_relationship : (r : Relationship) → IsRelationship r → IsPlain (relationship_tree r)
  plain_relationship r h = (
    ascii (codes "domain") refl,
    (plain_domain r.domain h.domain).utf8,
    (refl, (refl, (refl, tt))),
    (
      ascii (codes "endpoint") refl,
      (plain_id r.endpoint h.endpoint).utf8,
      (refl, (refl, tt)),
      (
        ascii (codes "profile") refl,
        ascii (codes "https_spiffe") refl,
        (refl, tt),
        (ascii (codes "url") refl, url_utf8 r.url h.url, tt, tt),
      ),
    ),
  )

  -- the objects of relationships are plain values
  plain_relationships : (rs : List Relationship) → AllByRecursion IsRelationship rs → ArePlain (items_of (map relationship_tree rs))
  plain_relationships [] h = tt
  plain_relationships (r ∷ rs) h = (plain_relationship r h.0, plain_relationships rs h.1)

  -- the object of a seed is a plain value
  plain_seed : (s : Seed) → IsSeed s → IsPlain (seed_tree s)
  plain_seed s h = (
    ascii (codes "bundle") refl,
    plain_document s.document h.bundle,
    (refl, tt),
    (ascii (codes "domain") refl, (plain_domain s.domain h.domain).utf8, tt, tt),
  )

  -- the objects of seeds are plain values
  plain_seeds : (ss : List Seed) → AllByRecursion IsSeed ss → ArePlain (items_of (map seed_tree ss))
  plain_seeds [] h = tt
  plain_seeds (s ∷ ss) h = (plain_seed s h.0, plain_seeds ss h.1)

  -- floors are plain members: their names rise, and their numbers are whole
  plain_floors : (c : Configuration) (fs : List Floor) → IsStrictlySortedBy floor_cmp fs → AllByRecursion (IsFloor c) fs → HasPlainMembers (floor_members fs)
  unfolding IsStrictlySortedBy
  plain_floors c [] rising each = tt
  plain_floors c (f ∷ fs) rising each = (
    (plain_domain f.domain each.0.domain).utf8,
    each.0.sequence,
    below_each f fs rising.0,
    plain_floors c fs rising.1 each.1,
  )

  -- so are they together with other members whose names are above theirs
  plain_with_floors : (c : Configuration) (fs : List Floor) → IsStrictlySortedBy floor_cmp fs → AllByRecursion (IsFloor c) fs → (others : Members)
      → IsBelowNames (codes "floors") others → HasPlainMembers others → HasPlainMembers (with_floors fs others)
  plain_with_floors c [] rising each others below plain = plain
  plain_with_floors c (f ∷ fs) rising each others below plain = (ascii (codes "floors") refl, plain_floors c (f ∷ fs) rising each, below, plain)

  -- the value of a configuration is plain, so its text is read back as it
  plain_configuration : (c : Configuration) → IsConfiguration c → IsPlain (config_tree c)
  plain_configuration c h = plain_with_floors c c.floors h.rising_floors h.each_floor (set_members c) ((refl, (refl, tt))) (
    ascii (codes "relationships") refl,
    plain_relationships c.relationships h.each_relationship,
    (refl, tt),
    (ascii (codes "seeds") refl, plain_seeds c.seeds h.each_seed, tt, tt),
  )

  -- the objects of seeds nest five levels deep at most: one more than a document
  shallow_seeds : (ss : List Seed) → items_depth (items_of (map seed_tree ss)) ≤ 5
  shallow_seeds [] = omega arith
  shallow_seeds (s ∷ ss) = omega (arith, shallow_document s.document, shallow_seeds ss)

  -- the value of a configuration nests seven levels deep at most, far below the limit of JSON texts
  shallow : (c : Configuration) → depth (config_tree c) ≤ 7
  shallow c =
      let sets : members_depth (set_members c) ≤ 6 = omega (arith, shallow_relationships c.relationships, shallow_seeds c.seeds) in
      let all = shallow_floors c.floors (set_members c) 6 (omega arith) sets in omega (arith, all)

  -- the canonical text of a configuration is a JSON text that says the configuration's texts
  is_text : (c : Configuration) → IsConfiguration c → IsText (config_text c) (texts_of c)
  unfolding config_text
  is_text c h = record { tree = config_tree c; json = reads (config_tree c) (plain_configuration c h) (omega (arith, shallow c)); says = says_texts c }

  -- ---- a text is that of one configuration

  module _ (one_id : (one other : Id) → IsId one → IsId other → one.text ≡ other.text
      → one ≡ other) (one_document : (b c : Bundle) → IsBundle b → IsBundle c → canonical_text b ≡ canonical_text c
      → b ≡ c) where
    -- relationships with equal texts are equal
    one_relationship : (r s : Relationship) → IsRelationship r → IsRelationship s → text_of r ≡ text_of s → r ≡ s
    unfolding text_of
    one_relationship r s p q e =
        same_relationship r s (ap (λ t. t.domain) e)
        (one_id r.endpoint s.endpoint p.endpoint q.endpoint (ap (λ t. t.endpoint) e)) (ap (λ t. t.url) e)

    -- seeds with equal texts are equal
    one_seed : (s u : Seed) → IsSeed s → IsSeed u → seed_text_of s ≡ seed_text_of u → s ≡ u
    unfolding seed_text_of
    one_seed s u p q e =
        let bundles : document_tree s.document ≡ document_tree u.document = ap (λ t. t.bundle) e in
        same_seed s u (ap (λ t. t.domain) e) (one_document s.document u.document p.bundle q.bundle (ap compact_text bundles))

    -- configurations with equal texts are equal
    one_of : (b c : Configuration) → IsConfiguration b → IsConfiguration c → b.limits ≡ c.limits → texts_of b ≡ texts_of c → b ≡ c
    unfolding texts_of
    one_of b c p q l e =
        same_configuration b c
        (map_one IsRelationship text_of one_relationship b.relationships c.relationships p.each_relationship q.each_relationship (ap (λ w. w.relationships) e))
        (map_one IsSeed seed_text_of one_seed b.seeds c.seeds p.each_seed q.each_seed (ap (λ w. w.seeds) e)) (ap (λ w. w.floors) e) l

    -- configurations with the same limits are equal exactly if their canonical texts are, as
    -- `laws::canonical_texts` says
    pub one_text : (b c : Configuration) → IsConfiguration b → IsConfiguration c → b.limits ≡ c.limits
        → (b ≡ c) ↔ (config_text b ≡ config_text c)
    one_text b c p q l = (
      λ e. ap config_text e,
      λ e. one_of b c p q l (same_written (config_text c) (texts_of b) (texts_of c) (subst (λ t. IsText t (texts_of b)) e (is_text b p)) (is_text c q)),
    )

  -- ---- what is written is read as the configuration

  module _ (means_document : (b : Bundle) → IsBundle b → Means (document_tree b) b) where
    -- the texts of relationships say them, if their URLs are short enough to be read
    each_relationship : (rs : List Relationship) → AllByRecursion IsRelationship rs
        → AllByRecursion (λ r. length r.url ≤ 2048) rs → AllZip SaysRelationship (map text_of rs) rs
    unfolding text_of
    each_relationship [] h short = tt
    each_relationship (r ∷ rs) h short = (
      record {
        domain = refl;
        is_domain = h.0.domain;
        endpoint = refl;
        is_id = h.0.endpoint;
        url = keeps_itself r.url h.0.url short.0;
        profile = refl;
      },
      each_relationship rs h.1 short.1,
    )

    -- the texts of seeds say them
    each_seed : (ss : List Seed) → AllByRecursion IsSeed ss → AllZip SaysSeed (map seed_text_of ss) ss
    unfolding seed_text_of
    each_seed [] h = tt
    each_seed (s ∷ ss) h = (
      record { domain = refl; is_domain = h.0.domain; means = means_document s.document h.0.bundle; fits = h.0.fits },
      each_seed ss h.1,
    )

    -- the texts of a configuration mean it, with the usual limits
    is_meant : (c : Configuration) → IsConfiguration c → HasShortUrls c → IsMeant (texts_of c) (usual c)
    unfolding texts_of
    is_meant c h short = record {
      relationships = c.relationships;
      each_relationship = each_relationship c.relationships h.each_relationship short;
      relationship_set = itself _ c.relationships h.rising_relationships;
      seeds = c.seeds;
      each_seed = each_seed c.seeds h.each_seed;
      seed_set = itself _ c.seeds h.rising_seeds;
      same_floors = refl;
      usual = refl;
    }

    -- the canonical text of a configuration with short URLs is a configuration of that meaning, as
    -- `laws::canonical_texts` says
    pub reads_back : (c : Configuration) → IsConfiguration c → HasShortUrls c → IsConfig (config_text c) (usual c)
    unfolding texts_of
    reads_back c h short = record {
      written = texts_of c;
      text = is_text c h;
      meant = is_meant c h short;
      single = single_in (map text_of c.relationships) (map seed_text_of c.seeds) c.floors c.relationships c.relationships
          (each_relationship c.relationships h.each_relationship short) (IsPermutation-refl c.relationships)
          h.rising_relationships;
      few_relationships = subst (λ n. n ≤ 1024) (sym (map_length text_of c.relationships)) h.few_relationships;
      few_seeds = subst (λ n. n ≤ 4096) (sym (map_length seed_text_of c.seeds)) h.few_seeds;
      is = IsConfiguration-limits c usual_limits h;
    }

-- without floors the canonical text is that of relationships and seeds, as `laws::canonical_texts`
-- says
pub no_floors : (c : Configuration) → c.floors ≡ [] → config_text c ≡ compact_text (object (set_members c))
unfolding config_text
no_floors c none = ap (λ fs. compact_text (object (with_floors fs (set_members c)))) none
