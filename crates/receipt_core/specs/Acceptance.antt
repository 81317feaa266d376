-- Which documents a replica accepts (SPIFFE Federation, section 5.2, profile https_spiffe).
use Rattle.std.specs.Prelude.{◌≡◌, ◌↔◌, ℕ, ◌≤◌, List, [], ◌∷◌, length, Contains}
use Rattle.std.specs.List.{AllByRecursion}
use Rattle.std.specs.List.Sorted.{IsStrictlySortedBy}
use Rattle.fed_config.specs.Configuration.{Configuration, HasDomain, Reaches, ReachesFloor}
use Rattle.fed_config.specs.declared.floor.Floor.{Floor}
use Rattle.fed_config.specs.declared.relationship.Relationship.{Relationship}
use Rattle.fed_config.specs.declared.seed.Seed.{Seed}
use Rattle.bundle_doc.specs.Bundle.{Bundle, HasKeyId, doc_id_of}
use Rattle.receipt_core.specs.declared.distrust.Distrust.{Distrust}
use Rattle.receipt_core.specs.Receipt.{Receipt, IsReceipt, receipt_cmp, IsDistrust, distrust_cmp}
use Rattle.receipt_core.specs.Receipt.{Pair, pair_of}
use Rattle.receipt_core.specs.Limits.{receipt_limit, record_limit}

-- The configuration has a relationship with the receipt's domain, its endpoint is the receipt's,
-- and the document reaches the floor of the domain, if there is one.
pub record IsFitting (c : Configuration) (r : Receipt) : Type 0 where
  pub relationship : Relationship
  pub has : Contains c.relationships relationship
  pub domain : relationship.domain ≡ r.domain
  pub endpoint : relationship.endpoint ≡ r.endpoint
  pub reaches : ReachesFloor c r.domain r.document

-- The domain has a floor that the document does not reach.
pub record MissesFloor (c : Configuration) (domain : List ℕ) (document : Bundle) : Type 0 where
  pub floor : Floor
  pub has : Contains c.floors floor
  pub of_domain : floor.domain ≡ domain
  pub below : Reaches floor.sequence document → ⊥

-- the configuration with only its relationships and seeds
abbrev pub without_floors : Configuration → Configuration
without_floors c = record c { floors = [] }

abbrev pub distrust_of : List ℕ → Receipt → Distrust
distrust_of domain r = record { domain = domain; key = r.key }

-- The document is of the endpoint's trust domain, it is the named one, an X.509 authority of it has
-- the named key, and that key is not distrusted there.
pub record Vouches (records : List Distrust) (p : Pair) (r : Receipt) : Type 0 where
  pub endpoint : p.domain ≡ r.endpoint.domain
  pub voucher : doc_id_of p.domain p.document ≡ r.voucher.0
  pub key : HasKeyId p.document.authorities r.key
  pub trusted : Contains records (distrust_of p.domain r) → ⊥

-- A chain from a document to another: each receipt fits, and is vouched for by the document before
-- it.
abbrev pub Leads : Configuration → List Distrust → Pair → List Receipt → Pair → Type 0
Leads c records from [] to = from ≡ to
Leads c records from (r ∷ chain) to = IsFitting c r × Vouches records from r
    × Leads c records (pair_of r) chain to

-- What a closure means: its configuration, and the receipts and the records of distrust that it
-- holds, each a set that is kept as a strictly sorted list.
pub record Meaning : Type 0 where
  pub config : Configuration
  pub held : List Receipt
  pub records : List Distrust

-- a meaning that a replica can have
pub record IsMeaning (m : Meaning) : Type 0 where
  pub receipts : AllByRecursion IsReceipt m.held
  pub rising : IsStrictlySortedBy receipt_cmp m.held
  pub fitting : AllByRecursion (IsFitting m.config) m.held
  pub few : length m.held ≤ receipt_limit m.config
  pub distrusts : AllByRecursion IsDistrust m.records
  pub records_rising : IsStrictlySortedBy distrust_cmp m.records
  pub domains : AllByRecursion (λ x. HasDomain m.config x.domain) m.records
  pub few_records : length m.records ≤ record_limit m.config

abbrev pub pair_of_seed : Seed → Pair
pair_of_seed s = record { domain = s.domain; document = s.document }

-- Accepted: a chain of held receipts leads from a configured document to this one. The empty chain
-- leads from each to itself.
pub record IsMember (m : Meaning) (p : Pair) : Type 0 where
  pub seed : Seed
  pub configured : Contains m.config.seeds seed
  pub chain : List Receipt
  pub held : AllByRecursion (Contains m.held) chain
  pub leads : Leads m.config m.records (pair_of_seed seed) chain p

-- a held receipt that an accepted document vouches for
pub record IsReleased (m : Meaning) (r : Receipt) : Type 0 where
  pub held : Contains m.held r
  pub fits : IsFitting m.config r
  pub voucher : Pair
  pub accepted : IsMember m voucher
  pub vouches : Vouches m.records voucher r

-- a held receipt that no accepted document vouches for
pub record IsPending (m : Meaning) (r : Receipt) : Type 0 where
  pub held : Contains m.held r
  pub unreleased : IsReleased m r → ⊥

-- The set has the configured documents and, with a document, the document of each held receipt
-- that it vouches for.
pub record IsClosed (m : Meaning) (set : Pair → Type 0) : Type 0 where
  pub seeds : (s : Seed) → Contains m.config.seeds s → set (pair_of_seed s)
  pub steps : (p : Pair) (r : Receipt) → set p → Contains m.held r → IsFitting m.config r
      → Vouches m.records p r → set (pair_of r)

-- These are the receipts of the list that the floors let through.
abbrev pub AreLetThrough : Configuration → List Receipt → List Receipt → Type 0
AreLetThrough c receipts through = (r : Receipt)
    → Contains through r ↔ (Contains receipts r × ReachesFloor c r.domain r.document)
