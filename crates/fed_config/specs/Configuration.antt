-- A configuration: what an operator says to a replica out of band (SPIFFE Federation, section 5).
use Rattle.std.specs.Prelude.{◌≡◌, ℕ, ◌^◌, ◌<◌, ◌≤◌, ◌⊎◌, List, [], ◌∷◌, length, map, codes}
use Rattle.std.specs.Prelude.{Contains, Option, Some, None, slice_get}
use Rattle.std.specs.List.{AllByRecursion}
use Rattle.std.specs.List.Sorted.{IsStrictlySortedBy}
use Rattle.std.specs.declared.cmp.Ordering.{Ordering}
use Rattle.std.specs.Ordering.{nat_cmp, ordering_then}
use Rattle.std.specs.Cmp.Lexicographic.{slice_cmp}
use Rattle.serde_json.specs.Data.{Data, string, array, object, number, unsigned}
use Rattle.serde_json.specs.Data.{Members, no_members, member}
use Rattle.serde_json.specs.View.{items_of}
use Rattle.serde_json.specs.Written.{compact_text}
use Rattle.sha2.specs.Sha256.{sha256}
use Rattle.spiffe_name.specs.TrustDomain.{IsDomainText}
use Rattle.spiffe_name.specs.SpiffeId.{IsId}
use Rattle.bundle_doc.specs.Bundle.{Bundle, IsBundle, Fits, canonical_text, document_tree}
use Rattle.fed_config.specs.EndpointUrl.{IsEndpointUrl}
use Rattle.fed_config.specs.declared.floor.Floor.{Floor}
use Rattle.fed_config.specs.declared.limits.Limits.{Limits}
use Rattle.fed_config.specs.declared.relationship.Relationship.{Relationship}
use Rattle.fed_config.specs.declared.seed.Seed.{Seed}
use Rattle.fed_config.specs.Limits.{domain_limit, relationship_limit, seed_limit, url_limit}

-- A finite map of relationships, kept as the list strictly sorted by their domains, a finite set of
-- seeds, kept as the list strictly sorted by domain and then by canonical text, and a finite map of
-- floors, kept as the list strictly sorted by their domains; and how much may be held under it,
-- which its text does not say.
pub record Configuration : Type 0 where
  pub relationships : List Relationship
  pub seeds : List Seed
  pub floors : List Floor
  pub limits : Limits

-- names are ordered by their bytes
abbrev pub domain_cmp : List ℕ → List ℕ → Ordering
domain_cmp = slice_cmp nat_cmp

abbrev pub relationship_cmp : Relationship → Relationship → Ordering
relationship_cmp a b = domain_cmp a.domain b.domain

abbrev pub seed_cmp : Seed → Seed → Ordering
seed_cmp a b = ordering_then (domain_cmp a.domain b.domain)
    (slice_cmp nat_cmp (canonical_text a.document) (canonical_text b.document))

abbrev pub floor_cmp : Floor → Floor → Ordering
floor_cmp a b = domain_cmp a.domain b.domain

-- the domains that the configuration speaks of: a floor adds none
abbrev pub HasDomain : Configuration → List ℕ → Type 0
HasDomain c domain = ((r : Relationship) × Contains c.relationships r × (r.domain ≡ domain))
    ⊎ ((r : Relationship) × Contains c.relationships r × (r.endpoint.domain ≡ domain))
    ⊎ ((s : Seed) × Contains c.seeds s × (s.domain ≡ domain))

-- the strictly sorted list of these domains
pub record AreDomains (c : Configuration) (domains : List (List ℕ)) : Type 0 where
  pub rising : IsStrictlySortedBy domain_cmp domains
  pub sound : (domain : List ℕ) → Contains domains domain → HasDomain c domain
  pub complete : (domain : List ℕ) → HasDomain c domain → Contains domains domain

pub record IsRelationship (r : Relationship) : Type 0 where
  pub domain : IsDomainText r.domain
  pub endpoint : IsId r.endpoint
  pub url : IsEndpointUrl r.url

pub record IsSeed (s : Seed) : Type 0 where
  pub domain : IsDomainText s.domain
  pub bundle : IsBundle s.document
  pub fits : Fits s.document

-- ---- floors: the lowest sequence numbers that are taken

-- the document has a sequence number, and it is not lower than this one
abbrev pub Reaches : ℕ → Bundle → Type 0
Reaches sequence document = (n : ℕ) × (document.rank ≡ Some n) × (sequence ≤ n)

-- the document of the domain reaches each of these floors that is the domain's
abbrev pub ReachesEach : List Floor → List ℕ → Bundle → Type 0
ReachesEach floors domain document = (f : Floor) → Contains floors f → f.domain ≡ domain
    → Reaches f.sequence document

-- the document of the domain reaches its floor, if it has one
abbrev pub ReachesFloor : Configuration → List ℕ → Bundle → Type 0
ReachesFloor c = ReachesEach c.floors

-- the one number of the domain's floors among these, if it has any
abbrev pub IsSequenceOf : List Floor → List ℕ → Option ℕ → Type 0
IsSequenceOf floors domain None = (f : Floor) → Contains floors f → f.domain ≡ domain → ⊥
IsSequenceOf floors domain (Some n) = ((f : Floor) × Contains floors f × (f.domain ≡ domain))
    × ((f : Floor) → Contains floors f → f.domain ≡ domain → f.sequence ≡ n)

-- the floor of the domain, if it has one: it has one at most
abbrev pub IsFloorOf : Configuration → List ℕ → Option ℕ → Type 0
IsFloorOf c = IsSequenceOf c.floors

-- a floor of one of the configuration's domains, which a document's sequence number can reach
pub record IsFloor (c : Configuration) (f : Floor) : Type 0 where
  pub domain : IsDomainText f.domain
  pub known : HasDomain c f.domain
  pub sequence : f.sequence < 2 ^ 64

-- a configuration that a replica can have
pub record IsConfiguration (c : Configuration) : Type 0 where
  pub rising_relationships : IsStrictlySortedBy relationship_cmp c.relationships
  pub rising_seeds : IsStrictlySortedBy seed_cmp c.seeds
  pub rising_floors : IsStrictlySortedBy floor_cmp c.floors
  pub each_relationship : AllByRecursion IsRelationship c.relationships
  pub each_seed : AllByRecursion IsSeed c.seeds
  pub each_floor : AllByRecursion (IsFloor c) c.floors
  pub each_seed_reaches : AllByRecursion (λ s. ReachesFloor c s.domain s.document) c.seeds
  pub few_relationships : length c.relationships ≤ relationship_limit
  pub few_seeds : length c.seeds ≤ seed_limit
  pub few_domains : (domains : List (List ℕ)) → AreDomains c domains → length domains ≤ domain_limit

-- the domain's place among the configuration's domains, if it is one
abbrev pub IsPlace : Configuration → List ℕ → Option ℕ → Type 0
IsPlace c domain None = HasDomain c domain → ⊥
IsPlace c domain (Some place) = (domains : List (List ℕ)) → AreDomains c domains
    → slice_get domains place ≡ Some domain

-- the relationship with the domain, if there is one
abbrev pub IsRelationshipOf : Configuration → List ℕ → Option Relationship → Type 0
IsRelationshipOf c domain None = (r : Relationship) → Contains c.relationships r → r.domain ≡ domain
    → ⊥
IsRelationshipOf c domain (Some r) = Contains c.relationships r × (r.domain ≡ domain)

-- ---- the canonical text

abbrev pub relationship_tree : Relationship → Data
relationship_tree r = object
    (member (codes "domain") (string r.domain)
    (member (codes "endpoint") (string r.endpoint.text)
    (member (codes "profile") (string (codes "https_spiffe"))
    (member (codes "url") (string r.url) no_members))))

abbrev pub seed_tree : Seed → Data
seed_tree s = object (member (codes "bundle") (document_tree s.document)
    (member (codes "domain") (string s.domain) no_members))

abbrev pub floor_members : List Floor → Members
floor_members [] = no_members
floor_members (f ∷ floors) = member f.domain (number (unsigned f.sequence)) (floor_members floors)

-- if there are no floors there is no member for them
abbrev pub with_floors : List Floor → Members → Members
with_floors [] others = others
with_floors (f ∷ floors) others = member (codes "floors") (object (floor_members (f ∷ floors)))
    others

-- the members of the relationships and of the seeds
abbrev pub set_members : Configuration → Members
set_members c = member (codes "relationships")
    (array (items_of (map relationship_tree c.relationships)))
    (member (codes "seeds") (array (items_of (map seed_tree c.seeds))) no_members)

-- the object that says just the configuration
abbrev pub config_tree : Configuration → Data
config_tree c = object (with_floors c.floors (set_members c))

-- unfolded only if a configuration is written or read
unfoldable pub config_text : Configuration → List ℕ
config_text c = compact_text (config_tree c)

-- the SHA-256 of the canonical text (FIPS 180-4)
unfoldable pub config_id_of : Configuration → List ℕ
config_id_of c = sha256 (config_text c)

-- each kept URL is within the limit of what is read: escaping may make it longer than the text that
-- was read
abbrev pub HasShortUrls : Configuration → Type 0
HasShortUrls c = AllByRecursion (λ r. length r.url ≤ url_limit) c.relationships

-- a configuration in memory, with its domains and its id
pub record IsStoredConfiguration (c : Configuration) (domains : List (List ℕ))
    (id : List ℕ) : Type 0 where
  pub is : IsConfiguration c
  pub are_domains : AreDomains c domains
  pub digest : id ≡ config_id_of c
