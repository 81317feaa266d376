-- A text has one meaning, or a cause for which it is refused.
use Rattle.std.proofs.Common.{◌≡◌, ℕ, zero, suc, ◌<◌, inl, inr, List, [], ◌∷◌, ◌++◌, length, get_or, take, Option, None, Some, codes, Contains}
use Rattle.std.proofs.Common.{refl, sym, ap, ap₂, ◌∙◌, subst, arith}
use Rattle.std.specs.List.{AllByRecursion, AllZip}
use Rattle.std.specs.declared.cmp.Ordering.{Ordering}
use Rattle.std.specs.Cmp.{IsTotalOrder}
use Rattle.serde_json.specs.Data.{Data, object, string}
use Rattle.serde_json.specs.Find.{get}
use Rattle.url.specs.Parts.{Parts, serialize}
use Rattle.spiffe_name.specs.SpiffeId.{Id, IsId, IsIdText}
use Rattle.spiffe_name.specs.TrustDomain.{IsDomainText}
use Rattle.bundle_doc.specs.Bundle.{Bundle, Means}
use Rattle.fed_config.specs.EndpointUrl.{IsParsed, KeepsUrl}
use Rattle.fed_config.specs.Written.{RelationshipText, SeedText, Written, HasCount, SaysFloors, SaysRelationshipText, SaysSeedText, SaysWritten, IsText}
use Rattle.fed_config.specs.Written.{member_count}
use Rattle.fed_config.specs.Configuration.{Configuration, AreDomains, HasDomain, IsFloor, ReachesEach, floor_members}
use Rattle.fed_config.specs.UnknownFloors.{FindsFailing, FindsUnknown, HasDomainNames, IsFirstFailing, RefusesDomains}
use Rattle.fed_config.specs.Reading.{Fails, HasName, IsConfig, IsMeant, IsProfile, IsSetOf, NamesDomain, Passes, RefusesConfigBytes}
use Rattle.fed_config.specs.Reading.{RefusesWritten, SaysRelationship, SaysSeed}
use Rattle.fed_config.specs.Seeds.{seed_cmp_total}
use Rattle.fed_config.specs.declared.error.ConfigError.{ConfigError}
use Rattle.fed_config.specs.declared.error.ConfigError.TheVariants.{NotJson, Shape, BadName, BadUrl, BadProfile, DoubleRelationship, BadSeed, TooMany, NoMemory}
use Rattle.fed_config.specs.declared.floor.Floor.{Floor}
use Rattle.fed_config.specs.declared.relationship.Relationship.{Relationship}
use Rattle.fed_config.specs.declared.names.Names.{Names}
use Rattle.fed_config.specs.declared.seed.Seed.{Seed}
use Rattle.fed_config.specs.declared.written.SeedEntry.{SeedEntry}
use Rattle.fed_config.proofs.ReadFacts.{HasRead, OneId, domain_named, each_implies, reaching_in, was_read, written}
use Rattle.fed_config.proofs.SetFacts.{Has-Contains, Contains-Has, each_from_has, each_has, rising_same}
use Rattle.fed_config.proofs.SingleFacts.{relationships_total}
use Rattle.fed_config.proofs.WrittenFacts.{one_array}
use Rattle.fed_config.proofs.ZipFacts.{each_left, zip_left, zip_one}
use Rattle.fed_config.specs.declared.limits.Limits.{Limits}

-- ---- what is written

-- the texts of a relationship from their parts
relationship_text : List ℕ → List ℕ → List ℕ → List ℕ → RelationshipText
relationship_text domain endpoint profile url = record { domain = domain; endpoint = endpoint; profile = profile; url = url }

-- a value has one text at most under a name
one_text : (tree : Data) (name s t : List ℕ) → get name tree ≡ Some (string s) → get name tree ≡ Some (string t) → s ≡ t
one_text tree name s t p q = let both : Some (string s) ≡ Some (string t) = sym p ∙ q in cc

-- a value says the texts of one relationship at most
one_relationship_text : (tree : Data) (t u : RelationshipText) → SaysRelationshipText tree t → SaysRelationshipText tree u → t ≡ u
unfolding relationship_text
one_relationship_text tree t u p q =
    let a : t.domain ≡ u.domain = one_text tree (codes "domain") t.domain u.domain p.domain q.domain in
    let b : t.endpoint ≡ u.endpoint = one_text tree (codes "endpoint") t.endpoint u.endpoint p.endpoint q.endpoint in
    let c : t.profile ≡ u.profile = one_text tree (codes "profile") t.profile u.profile p.profile q.profile in
    let d : t.url ≡ u.url = one_text tree (codes "url") t.url u.url p.url q.url in
    let same : relationship_text t.domain t.endpoint t.profile t.url ≡ relationship_text u.domain u.endpoint u.profile u.url = cc in same

-- what is written of a seed, from its parts
seed_of : Data → List ℕ → SeedText
seed_of bundle domain = record { bundle = bundle; domain = domain }

-- a value says what is written of one seed at most
one_seed_text : (tree : Data) (t u : SeedText) → SaysSeedText tree t → SaysSeedText tree u → t ≡ u
unfolding seed_of
one_seed_text tree t u p q =
    let a : t.domain ≡ u.domain = one_text tree (codes "domain") t.domain u.domain p.domain q.domain in
    let both : Some t.bundle ≡ Some u.bundle = sym p.bundle ∙ q.bundle in
    let b : t.bundle ≡ u.bundle = cc in
    let same : seed_of t.bundle t.domain ≡ seed_of u.bundle u.domain = cc in same

-- what is written of a configuration, from its parts
written_of : List RelationshipText → List SeedText → List Floor → Written
written_of relationships seeds floors = record { relationships = relationships; seeds = seeds; floors = floors }

-- a floor from its parts
floor_of : List ℕ → ℕ → Floor
floor_of domain sequence = record { domain = domain; sequence = sequence }

-- members are those of one list of floors at most
one_list : (fs gs : List Floor) → floor_members fs ≡ floor_members gs → fs ≡ gs
unfolding floor_of
one_list [] [] e = refl
one_list [] (g ∷ gs) e = absurd (cc)
one_list (f ∷ fs) [] e = absurd (cc)
one_list (f ∷ fs) (g ∷ gs) e =
    let domain : f.domain ≡ g.domain = cc in
    let sequence : f.sequence ≡ g.sequence = cc in
    let rest : floor_members fs ≡ floor_members gs = cc in
    let first : floor_of f.domain f.sequence ≡ floor_of g.domain g.sequence = cc in
    ap₂ (λ x xs. x ∷ xs) first (one_list fs gs rest)

-- an object has one number of members
one_count : (tree : Data) (m n : ℕ) → HasCount tree m → HasCount tree n → m ≡ n
one_count tree m n p q =
    let both : Some p.0 ≡ Some q.0 = sym p.1 ∙ q.1 in
    let same : p.0 ≡ q.0 = cc in
    sym p.2 ∙ ap member_count same ∙ q.2

-- a value says one list of floors at most
one_floors : (tree : Data) (fs gs : List Floor) → SaysFloors tree fs → SaysFloors tree gs → fs ≡ gs
one_floors tree fs gs (inl p) (inl q) = p.1 ∙ sym q.1
one_floors tree fs gs (inl p) (inr q) = absurd (let e = one_count tree 2 3 p.0 q.0 in omega (arith, e))
one_floors tree fs gs (inr p) (inl q) = absurd (let e = one_count tree 3 2 p.0 q.0 in omega (arith, e))
one_floors tree fs gs (inr p) (inr q) =
    let both : Some (object (floor_members fs)) ≡ Some (object (floor_members gs)) = sym p.1 ∙ q.1 in
    let members : floor_members fs ≡ floor_members gs = cc in one_list fs gs members

-- a value says one configuration's texts at most
pub one_written : (tree : Data) (w v : Written) → SaysWritten tree w → SaysWritten tree v → w ≡ v
unfolding written_of
one_written tree w v p q =
    let trees = one_array tree (codes "relationships") p.relationships q.relationships p.has_relationships q.has_relationships in
    let others = one_array tree (codes "seeds") p.seeds q.seeds p.has_seeds q.has_seeds in
    let a : w.relationships ≡ v.relationships =
    zip_one SaysRelationshipText one_relationship_text q.relationships w.relationships v.relationships
    (subst (λ l. AllZip SaysRelationshipText l w.relationships) trees p.each_relationship) q.each_relationship in
    let b : w.seeds ≡ v.seeds =
    zip_one SaysSeedText one_seed_text q.seeds w.seeds v.seeds
    (subst (λ l. AllZip SaysSeedText l w.seeds) others p.each_seed) q.each_seed in
    let c : w.floors ≡ v.floors = one_floors tree w.floors v.floors p.floors q.floors in
    let same : written_of w.relationships w.seeds w.floors ≡ written_of v.relationships v.seeds v.floors = cc in same

-- bytes are a text of one configuration's texts at most
pub same_written : (bytes : List ℕ) (w v : Written) → IsText bytes w → IsText bytes v → w ≡ v
same_written bytes w v p q =
    let both : Some p.tree ≡ Some q.tree = sym p.json.1 ∙ q.json.1 in
    let tree : p.tree ≡ q.tree = cc in
    one_written q.tree w v (subst (λ t. SaysWritten t w) tree p.says) q.says

-- ---- the meaning

-- a relationship from its parts
relationship_of : List ℕ → Id → List ℕ → Relationship
relationship_of domain endpoint url = record { domain = domain; endpoint = endpoint; url = url }

-- one text is kept as one URL at most
one_url : (text u v : List ℕ) → KeepsUrl text u → KeepsUrl text v → u ≡ v
one_url text u v p q =
    let both = sym p.parsed.parses ∙ q.parsed.parses in
    let same : p.parts ≡ q.parts = cc in p.serialized ∙ ap serialize same ∙ sym q.serialized

-- a seed from its parts
seed_from : List ℕ → Bundle → Seed
seed_from domain document = record { domain = domain; document = document }

-- a set has one strictly sorted list
same_set : {X : Type 0} {cmp : X → X → Ordering} (o : IsTotalOrder cmp) (xs ys set other : List X) → xs ≡ ys
    → IsSetOf cmp xs set → IsSetOf cmp ys other → set ≡ other
same_set {X} o xs ys set other e p q =
    rising_same o set other p.rising q.rising
    (λ x h. Has-Contains other x ((q.members x).1 (subst (λ l. Contains l x) e ((p.members x).0 (Contains-Has set x h)))))
    (λ x h. Has-Contains set x ((p.members x).1 (subst (λ l. Contains l x) (sym e) ((q.members x).0 (Contains-Has other x h)))))

-- a configuration from its parts
configuration_of : List Relationship → List Seed → List Floor → Limits → Configuration
configuration_of relationships seeds floors limits = record { relationships = relationships; seeds = seeds; floors = floors; limits = limits }

module _ (one_id : (one other : Id) → IsId one → IsId other → one.text ≡ other.text
    → one ≡ other) (one_bundle : (value : Data) (b c : Bundle) → Means value b → Means value c → b ≡ c) where
  -- texts say one relationship at most
  one_relationship : (t : RelationshipText) (r s : Relationship) → SaysRelationship t r → SaysRelationship t s → r ≡ s
  unfolding relationship_of
  one_relationship t r s p q =
      let a : r.domain ≡ s.domain = p.domain ∙ sym q.domain in
      let b : r.endpoint ≡ s.endpoint = one_id r.endpoint s.endpoint p.is_id q.is_id (p.endpoint ∙ sym q.endpoint) in
      let c : r.url ≡ s.url = one_url t.url r.url s.url p.url q.url in
      let same : relationship_of r.domain r.endpoint r.url ≡ relationship_of s.domain s.endpoint s.url = cc in same

  -- what is written of a seed says one seed at most
  one_seed : (t : SeedText) (s u : Seed) → SaysSeed t s → SaysSeed t u → s ≡ u
  unfolding seed_from
  one_seed t s u p q =
      let a : s.domain ≡ u.domain = p.domain ∙ sym q.domain in
      let b : s.document ≡ u.document = one_bundle t.bundle s.document u.document p.means q.means in
      let same : seed_from s.domain s.document ≡ seed_from u.domain u.document = cc in same

  -- what is written means one configuration at most
  pub one_meaning : (w : Written) (b c : Configuration) → IsMeant w b → IsMeant w c → b ≡ c
  unfolding configuration_of
  one_meaning w b c p q =
      let rs = zip_one SaysRelationship one_relationship w.relationships p.relationships q.relationships p.each_relationship q.each_relationship in
      let ss = zip_one SaysSeed one_seed w.seeds p.seeds q.seeds p.each_seed q.each_seed in
      let a : b.relationships ≡ c.relationships =
      same_set relationships_total p.relationships q.relationships b.relationships c.relationships rs
      p.relationship_set q.relationship_set in
      let d : b.seeds ≡ c.seeds = same_set seed_cmp_total p.seeds q.seeds b.seeds c.seeds ss p.seed_set q.seed_set in
      let f : b.floors ≡ c.floors = p.same_floors ∙ sym q.same_floors in
      let l : b.limits ≡ c.limits = p.usual ∙ sym q.usual in
      let same : configuration_of b.relationships b.seeds b.floors b.limits ≡ configuration_of c.relationships c.seeds c.floors c.limits = cc in same

  -- bytes are of one configuration at most, as `laws::configurations` says
  pub one_configuration : (bytes : List ℕ) (b c : Configuration) → IsConfig bytes b → IsConfig bytes c → b ≡ c
  one_configuration bytes b c p q = one_meaning q.written b c (subst (λ w. IsMeant w b) (same_written bytes p.written q.written p.text q.text) p.meant) q.meant

  -- ---- what is read has no cause

  -- a domain of the configuration is one that is written
  names_domain : (w : Written) (c : Configuration) → IsMeant w c → (d : List ℕ) → HasDomain c d → NamesDomain w d
  names_domain w c p d (inl h) =
      let with_it = zip_left SaysRelationship w.relationships p.relationships h.0 p.each_relationship
      (Has-Contains p.relationships h.0 ((p.relationship_set.members h.0).0 h.1)) in
      inl (with_it.0, Contains-Has w.relationships with_it.0 with_it.1, sym with_it.2.domain ∙ h.2)
  names_domain w c p d (inr (inl h)) =
      let with_it = zip_left SaysRelationship w.relationships p.relationships h.0 p.each_relationship
      (Has-Contains p.relationships h.0 ((p.relationship_set.members h.0).0 h.1)) in
      inr (inl (
        with_it.0,
        Contains-Has w.relationships with_it.0 with_it.1,
        h.0.endpoint.path,
        subst (λ x. IsIdText with_it.0.endpoint x h.0.endpoint.path) h.2
            (subst (λ text. IsIdText text h.0.endpoint.domain h.0.endpoint.path) with_it.2.endpoint with_it.2.is_id),
      ))
  names_domain w c p d (inr (inr h)) =
      let with_it = zip_left SaysSeed w.seeds p.seeds h.0 p.each_seed
      (Has-Contains p.seeds h.0 ((p.seed_set.members h.0).0 h.1)) in
      inr (inr (with_it.0, Contains-Has w.seeds with_it.0 with_it.1, sym with_it.2.domain ∙ h.2))

  -- the texts of a relationship have names in their forms
  named : (t : RelationshipText) (r : Relationship) → SaysRelationship t r → HasName t
  named t r h = record {
    domain = subst IsDomainText h.domain h.is_domain;
    endpoint_domain = r.endpoint.domain;
    endpoint_path = r.endpoint.path;
    endpoint = subst (λ text. IsIdText text r.endpoint.domain r.endpoint.path) h.endpoint h.is_id;
  }

  -- what is written of a configuration passes each test
  passes : (bytes : List ℕ) (c : Configuration) (p : IsConfig bytes c) (e : ConfigError) → Passes p.written e
  passes bytes c p BadName = record {
    relationships = each_left SaysRelationship HasName named p.written.relationships p.meant.relationships p.meant.each_relationship;
    seeds = each_left SaysSeed (λ t. IsDomainText t.domain) (λ t s h. subst IsDomainText h.domain h.is_domain) p.written.seeds p.meant.seeds p.meant.each_seed;
    floors = subst (AllByRecursion (λ f. NamesDomain p.written f.domain)) p.meant.same_floors
        (each_implies (IsFloor c) (λ f. NamesDomain p.written f.domain) (λ f h. names_domain p.written c p.meant f.domain h.known) c.floors p.is.each_floor);
  }
  passes bytes c p BadUrl = each_left SaysRelationship (λ t. (parts : Parts)
      × IsParsed t.url parts) (λ t r h. (h.url.parts, h.url.parsed)) p.written.relationships p.meant.relationships
      p.meant.each_relationship
  passes bytes c p BadProfile =
      each_left SaysRelationship (λ t. IsProfile t.profile) (λ t r h. h.profile) p.written.relationships
      p.meant.relationships p.meant.each_relationship
  passes bytes c p DoubleRelationship = p.single
  passes bytes c p BadSeed =
      reaching_in p.written.floors p.written.seeds p.meant.seeds p.meant.each_seed
      (subst (λ fs. AllByRecursion (λ s. ReachesEach fs s.domain s.document) p.meant.seeds) p.meant.same_floors
      (each_from_has _ p.meant.seeds (λ s h. each_has (λ s. ReachesEach c.floors s.domain s.document) c.seeds s p.is.each_seed_reaches
      (Has-Contains c.seeds s ((p.meant.seed_set.members s).1 (Contains-Has p.meant.seeds s h))))))
  passes bytes c p TooMany = record {
    relationships = p.few_relationships;
    seeds = p.few_seeds;
    domains = λ d ds meant are. p.is.few_domains ds (subst (λ x. AreDomains x ds) (one_meaning p.written d c meant p.meant) are);
  }
  passes bytes c p NotJson = tt
  passes bytes c p Shape = tt
  passes bytes c p NoMemory = tt

  -- what is written and refused is not a configuration
  no_cause : (bytes : List ℕ) (e : ConfigError) (c : Configuration) (w : Written) → IsText bytes w → RefusesWritten w e → IsConfig bytes c → ⊥
  no_cause bytes e c w text refuses p = refuses.failed (subst (λ v. Passes v e) (same_written bytes p.written w p.text text) (passes bytes c p e))

  -- bytes that are refused, other than for memory, are not a configuration, as
  -- `laws::configurations` says
  pub refused_none : (bytes : List ℕ) (e : ConfigError) (c : Configuration) → RefusesConfigBytes bytes e → (e ≡ NoMemory → ⊥) → IsConfig bytes c → ⊥
  refused_none bytes NotJson c h other p = h p.text.tree p.text.json
  refused_none bytes Shape c h other p =
      let both : Some p.text.tree ≡ Some h.0 = sym p.text.json.1 ∙ h.1.1 in
      let tree : p.text.tree ≡ h.0 = cc in h.2 p.written (subst (λ t. SaysWritten t p.written) tree p.text.says)
  refused_none bytes BadName c h other p = no_cause bytes BadName c h.0 h.1 h.2 p
  refused_none bytes BadUrl c h other p = no_cause bytes BadUrl c h.0 h.1 h.2 p
  refused_none bytes BadProfile c h other p = no_cause bytes BadProfile c h.0 h.1 h.2 p
  refused_none bytes DoubleRelationship c h other p = no_cause bytes DoubleRelationship c h.0 h.1 h.2 p
  refused_none bytes BadSeed c h other p = no_cause bytes BadSeed c h.0 h.1 h.2 p
  refused_none bytes TooMany c h other p = no_cause bytes TooMany c h.0 h.1 h.2 p
  refused_none bytes NoMemory c h other p = other refl

-- ---- floors of unknown domains

-- a list is the part before one of its elements, the element, and the part after it
split_at : (fs : List Floor) (i : ℕ) (f : Floor) → i < length fs → f ≡ get_or fs i f → (after : List Floor) × (fs ≡ take i fs ++ f ∷ after)
split_at [] i f below at = absurd (omega arith)
split_at (g ∷ fs) zero f below at = (fs, ap (λ x. x ∷ fs) (sym at))
split_at (g ∷ fs) (suc i) f below at = let rest = split_at fs i f (omega arith) at in (rest.0, ap (λ l. g ∷ l) rest.1)

-- a loop that reaches a name that fails has found the first one
pub finds_here : (P : List ℕ → Type 0) (fs : List Floor) (i : ℕ) (f : Floor) (name : List ℕ) → i < length fs → f ≡ get_or fs i f → f.domain ≡ name
    → AllByRecursion (λ g. P g.domain) (take i fs) → (P name → ⊥) → IsFirstFailing P fs name
finds_here P fs i f name below at same passed fails = let rest = split_at fs i f below at in record {
  before = take i fs;
  floor = f;
  after = rest.0;
  are = rest.1;
  of_name = same;
  fails = fails;
  passed = passed;
}

-- the first name that fails is that of another test that the same names pass
finds_same : (P Q : List ℕ → Type 0) (fs : List Floor) → ((d : List ℕ) → P d → Q d) → ((d : List ℕ) → Q d → P d) → (found : Option (List ℕ))
    → FindsFailing P fs found → FindsFailing Q fs found
finds_same P Q fs there back None each = each_implies (λ f. P f.domain) (λ f. Q f.domain) (λ f. there f.domain) fs each
finds_same P Q fs there back (Some name) h = record {
  before = h.before;
  floor = h.floor;
  after = h.after;
  are = h.are;
  of_name = h.of_name;
  fails = λ q. h.fails (back name q);
  passed = each_implies (λ f. P f.domain) (λ f. Q f.domain) (λ f. there f.domain) h.before h.passed;
}

-- the first domain that was not read is the first that is not named
pub finds_unknown : (tree : Data) (ts : List RelationshipText) (es : List SeedEntry) (fs : List Floor) (ns : List Names) (ds all : List (List ℕ))
    → HasRead ts es ns ds all → OneId → SaysWritten tree (written ts es fs) → (found : Option (List ℕ)) → FindsFailing (Contains all) fs found
    → FindsUnknown tree found
finds_unknown tree ts es fs ns ds all read one mine found h = record {
  written = written ts es fs;
  says = mine;
  finds = λ w says. subst (λ v. FindsFailing (NamesDomain v) v.floors found) (sym (one_written tree w (written ts es fs) says mine))
      (finds_same (Contains all) (NamesDomain (written ts es fs)) fs (domain_named ts es fs ns ds all read) (was_read ts es fs ns ds all read one) found h);
}

-- without a shape no domains are known
pub no_shape : (tree : Data) (e : ConfigError) → Fails Shape ((w : Written) × SaysWritten tree w) e → RefusesDomains tree e
no_shape tree e (inl is) = subst (RefusesDomains tree) (sym is) tt
no_shape tree e (inr f) = subst (RefusesDomains tree) (sym f.0) (λ w says. f.1 (w, says))

-- nor without names of relationships and seeds
pub no_names : (tree : Data) (w : Written) (P : Type 0) (e : ConfigError) → SaysWritten tree w → Fails BadName P e → (HasDomainNames w → P)
    → RefusesDomains tree e
no_names tree w P e says (inl is) go = subst (RefusesDomains tree) (sym is) tt
no_names tree w P e says (inr f) go = subst (RefusesDomains tree) (sym f.0) (w, says, λ h. f.1 (go h))
