-- What a text means as a configuration, and why it is not one.
use Rattle.std.specs.Prelude.{◌≡◌, ℕ, ◌<◌, ◌≤◌, ◌↔◌, ◌⊎◌, ⊤, List, [], ◌∷◌, length, codes, Contains}
use Rattle.std.specs.Prelude.{count_by, bytes_eq}
use Rattle.std.specs.Str.{IsUtf8}
use Rattle.std.specs.List.{AllByRecursion, AllZip}
use Rattle.std.specs.List.Sorted.{IsStrictlySortedBy}
use Rattle.std.specs.declared.cmp.Ordering.{Ordering}
use Rattle.serde_json.specs.Data.{Data}
use Rattle.spiffe_name.specs.TrustDomain.{IsDomainText}
use Rattle.spiffe_name.specs.SpiffeId.{IsId, IsIdText}
use Rattle.jwk_set.specs.Json.{IsJson}
use Rattle.bundle_doc.specs.Bundle.{Bundle, Means, Fits}
use Rattle.bundle_doc.specs.declared.error.DocError.{DocError}
use Rattle.bundle_doc.specs.declared.error.DocError.TheVariants as doc_error
use Rattle.url.specs.Parts.{Parts}
use Rattle.fed_config.specs.EndpointUrl.{IsParsed, KeepsUrl}
use Rattle.fed_config.specs.Written.{RelationshipText, SeedText, Written, SaysWritten, IsText}
use Rattle.fed_config.specs.Configuration.{Configuration, IsConfiguration, IsRelationship, IsSeed}
use Rattle.fed_config.specs.Configuration.{AreDomains, IsFloor, ReachesEach, ReachesFloor}
use Rattle.fed_config.specs.Configuration.{floor_cmp, relationship_cmp, seed_cmp}
use Rattle.fed_config.specs.declared.floor.Floor.{Floor}
use Rattle.fed_config.specs.declared.relationship.Relationship.{Relationship}
use Rattle.fed_config.specs.declared.seed.Seed.{Seed}
use Rattle.fed_config.specs.declared.names.Names.{Names}
use Rattle.fed_config.specs.declared.error.ConfigError.{ConfigError}
use Rattle.fed_config.specs.declared.error.ConfigError.TheVariants.{NotJson, Shape, BadName, BadUrl}
use Rattle.fed_config.specs.declared.error.ConfigError.TheVariants.{BadProfile, DoubleRelationship}
use Rattle.fed_config.specs.declared.error.ConfigError.TheVariants.{BadSeed, TooMany, NoMemory}
use Rattle.fed_config.specs.Limits.{domain_limit, relationship_limit, seed_limit, usual_limits}

-- ---- the meaning

-- the profile is `https_spiffe` (SPIFFE Federation, section 5.2.2)
abbrev pub IsProfile : List ℕ → Type 0
IsProfile profile = profile ≡ codes "https_spiffe"

pub record SaysRelationship (t : RelationshipText) (r : Relationship) : Type 0 where
  pub domain : r.domain ≡ t.domain
  pub is_domain : IsDomainText r.domain
  pub endpoint : r.endpoint.text ≡ t.endpoint
  pub is_id : IsId r.endpoint
  pub url : KeepsUrl t.url r.url
  pub profile : IsProfile t.profile

pub record SaysSeed (t : SeedText) (s : Seed) : Type 0 where
  pub domain : s.domain ≡ t.domain
  pub is_domain : IsDomainText s.domain
  pub means : Means t.bundle s.document
  pub fits : Fits s.document

-- the list is the set of these, strictly sorted
pub record IsSetOf {X : Type 0} (cmp : X → X → Ordering) (xs set : List X) : Type 0 where
  pub rising : IsStrictlySortedBy cmp set
  pub members : (x : X) → Contains set x ↔ Contains xs x

-- what each relationship and each seed says, as two sets
pub record IsMeant (w : Written) (c : Configuration) : Type 0 where
  pub relationships : List Relationship
  pub each_relationship : AllZip SaysRelationship w.relationships relationships
  pub relationship_set : IsSetOf relationship_cmp relationships c.relationships
  pub seeds : List Seed
  pub each_seed : AllZip SaysSeed w.seeds seeds
  pub seed_set : IsSetOf seed_cmp seeds c.seeds
  pub same_floors : c.floors ≡ w.floors
  pub usual : c.limits ≡ usual_limits

-- a trust domain has at most one relationship
abbrev pub HasSingle : Written → Type 0
HasSingle w = (domain : List ℕ) → count_by (λ t. bytes_eq t.domain domain) w.relationships ≤ 1

-- the bytes are a configuration of this meaning
pub record IsConfig (bytes : List ℕ) (c : Configuration) : Type 0 where
  pub written : Written
  pub text : IsText bytes written
  pub meant : IsMeant written c
  pub single : HasSingle written
  pub few_relationships : length written.relationships ≤ relationship_limit
  pub few_seeds : length written.seeds ≤ seed_limit
  pub is : IsConfiguration c

-- ---- the refusals

pub record HasName (t : RelationshipText) : Type 0 where
  pub domain : IsDomainText t.domain
  pub endpoint_domain : List ℕ
  pub endpoint_path : List ℕ
  pub endpoint : IsIdText t.endpoint endpoint_domain endpoint_path

-- the domain is that of a relationship, of its endpoint or of a seed
abbrev pub NamesDomain : Written → List ℕ → Type 0
NamesDomain w domain =
    ((t : RelationshipText) × Contains w.relationships t × (t.domain ≡ domain))
    ⊎ ((t : RelationshipText) × Contains w.relationships t × (path : List ℕ)
    × IsIdText t.endpoint domain path)
    ⊎ ((t : SeedText) × Contains w.seeds t × (t.domain ≡ domain))

-- a floor has one of the configuration's domains
pub record HasNames (w : Written) : Type 0 where
  pub relationships : AllByRecursion HasName w.relationships
  pub seeds : AllByRecursion (λ t. IsDomainText t.domain) w.seeds
  pub floors : AllByRecursion (λ f. NamesDomain w f.domain) w.floors

abbrev pub HasUrls : Written → Type 0
HasUrls w = AllByRecursion (λ t. (parts : Parts) × IsParsed t.url parts) w.relationships

abbrev pub HasProfiles : Written → Type 0
HasProfiles w = AllByRecursion (λ t. IsProfile t.profile) w.relationships

-- the value is a document, and it reaches the floor of its domain
pub record IsSeedText (floors : List Floor) (t : SeedText) : Type 0 where
  pub document : Bundle
  pub means : Means t.bundle document
  pub fits : Fits document
  pub reaches : ReachesEach floors t.domain document

abbrev pub HasDocuments : Written → Type 0
HasDocuments w = AllByRecursion (IsSeedText w.floors) w.seeds

-- at most 1,024 relationships and 4,096 seeds, as written, and at most 1,024 domains
pub record HasFew (w : Written) : Type 0 where
  pub relationships : length w.relationships ≤ relationship_limit
  pub seeds : length w.seeds ≤ seed_limit
  pub domains : (c : Configuration) (domains : List (List ℕ)) → IsMeant w c → AreDomains c domains
      → length domains ≤ domain_limit

-- what is refused with this cause lacks this
abbrev pub Passes : Written → ConfigError → Type 0
Passes w BadName = HasNames w
Passes w BadUrl = HasUrls w
Passes w BadProfile = HasProfiles w
Passes w DoubleRelationship = HasSingle w
Passes w BadSeed = HasDocuments w
Passes w TooMany = HasFew w
Passes w e = ⊤

-- the causes that go before
abbrev pub earlier : ConfigError → List ConfigError
earlier BadUrl = BadName ∷ []
earlier BadProfile = BadName ∷ BadUrl ∷ []
earlier DoubleRelationship = BadName ∷ BadUrl ∷ BadProfile ∷ []
earlier BadSeed = BadName ∷ BadUrl ∷ BadProfile ∷ DoubleRelationship ∷ []
earlier TooMany = BadName ∷ BadUrl ∷ BadProfile ∷ DoubleRelationship ∷ BadSeed ∷ []
earlier e = []

-- the first cause: all that go before do not hold, and this one does
pub record RefusesWritten (w : Written) (e : ConfigError) : Type 0 where
  pub passed : AllByRecursion (Passes w) (earlier e)
  pub failed : Passes w e → ⊥

-- the text has its shape, and what is written is refused
abbrev pub RefusesConfigText : List ℕ → ConfigError → Type 0
RefusesConfigText bytes e = (w : Written) × IsText bytes w × RefusesWritten w e

-- Memory is first wanted for the value of a text that is not empty: that the bytes are UTF-8 is
-- known before.
abbrev pub RefusesConfigBytes : List ℕ → ConfigError → Type 0
RefusesConfigBytes bytes NotJson = (tree : Data) → IsJson bytes tree → ⊥
RefusesConfigBytes bytes Shape = (tree : Data) × IsJson bytes tree
    × ((w : Written) → SaysWritten tree w → ⊥)
RefusesConfigBytes bytes NoMemory = IsUtf8 bytes × (0 < length bytes)
RefusesConfigBytes bytes e = RefusesConfigText bytes e

-- ---- single steps

-- memory ran out, or it is this cause and that does not hold
abbrev pub Fails : ConfigError → Type 0 → ConfigError → Type 0
Fails cause P e = (e ≡ NoMemory) ⊎ ((e ≡ cause) × (P → ⊥))

-- the names of a relationship are those that are written
pub record SaysNames (t : RelationshipText) (n : Names) : Type 0 where
  pub domain : n.domain ≡ t.domain
  pub is_domain : IsDomainText n.domain
  pub endpoint : n.endpoint.text ≡ t.endpoint
  pub is_id : IsId n.endpoint

pub record SaysDomain (t : SeedText) (domain : List ℕ) : Type 0 where
  pub same : domain ≡ t.domain
  pub is : IsDomainText domain

abbrev pub SaysUrl : RelationshipText → List ℕ → Type 0
SaysUrl t url = KeepsUrl t.url url

pub record SaysSeedDocument (t : SeedText) (b : Bundle) : Type 0 where
  pub means : Means t.bundle b
  pub fits : Fits b

-- the cause for which a seed is refused whose bundle is
abbrev pub cause_of : DocError → ConfigError
cause_of doc_error.NoMemory = NoMemory
cause_of e = BadSeed

abbrev pub joined_relationship : Names × List ℕ → Relationship
joined_relationship p = record { domain = p.0.domain; endpoint = p.0.endpoint; url = p.1 }

abbrev pub joined_seed : List ℕ × Bundle → Seed
joined_seed p = record { domain = p.0; document = p.1 }

abbrev pub HasFewDomains : Configuration → Type 0
HasFewDomains c = (domains : List (List ℕ)) → AreDomains c domains → length domains ≤ domain_limit

-- a configuration, except for the number of its domains
pub record HasRisingLists (c : Configuration) : Type 0 where
  pub rising_relationships : IsStrictlySortedBy relationship_cmp c.relationships
  pub rising_seeds : IsStrictlySortedBy seed_cmp c.seeds
  pub rising_floors : IsStrictlySortedBy floor_cmp c.floors
  pub each_relationship : AllByRecursion IsRelationship c.relationships
  pub each_seed : AllByRecursion IsSeed c.seeds
  pub each_floor : AllByRecursion (IsFloor c) c.floors
  pub each_seed_reaches : AllByRecursion (λ s. ReachesFloor c s.domain s.document) c.seeds
  pub few_relationships : length c.relationships ≤ relationship_limit
  pub few_seeds : length c.seeds ≤ seed_limit

-- what is written is a configuration
pub record IsRead (w : Written) (c : Configuration) : Type 0 where
  pub meant : IsMeant w c
  pub single : HasSingle w
  pub few_relationships : length w.relationships ≤ relationship_limit
  pub few_seeds : length w.seeds ≤ seed_limit
  pub is : IsConfiguration c

abbrev pub RefusesRead : Written → ConfigError → Type 0
RefusesRead w NotJson = ⊥
RefusesRead w Shape = ⊥
RefusesRead w NoMemory = ⊤
RefusesRead w e = RefusesWritten w e
