-- What depends on relationships, seeds and floors, and not on limits
use Rattle.std.proofs.Common.{◌≡◌, ℕ, List, [], ◌∷◌, refl, sym, ap, ◌∙◌, subst}
use Rattle.std.specs.List.{Contains}
use Rattle.fed_config.specs.Configuration.{AreDomains, Configuration, HasDomain, ReachesEach, config_id_of, config_text}
use Rattle.fed_config.specs.declared.floor.Floor.{Floor}
use Rattle.fed_config.specs.declared.limits.Limits.{Limits}
use Rattle.fed_config.specs.declared.relationship.Relationship.{Relationship}
use Rattle.fed_config.specs.declared.seed.Seed.{Seed}
use Rattle.receipt_core.specs.declared.distrust.Distrust.{Distrust}
use Rattle.receipt_core.specs.Receipt.{Receipt, Pair, pair_of}
use Rattle.receipt_core.specs.Acceptance.{IsFitting, Leads, pair_of_seed}
use Rattle.receipt_core.specs.Chain.{IsChain, last_pair}
use Rattle.closure_core.specs.Alike.{IsSameTrust, with_limits}

-- equal configurations have the same
pub same_of_equal : (b c : Configuration) → b ≡ c → IsSameTrust b c
same_of_equal b c e = record {
  relationships = ap (λ (d : Configuration). d.relationships) e;
  seeds = ap (λ (d : Configuration). d.seeds) e;
  floors = ap (λ (d : Configuration). d.floors) e;
}

-- in either order
pub same_turned : (b c : Configuration) → IsSameTrust b c → IsSameTrust c b
same_turned b c same = record { relationships = sym same.relationships; seeds = sym same.seeds; floors = sym same.floors }

-- only the limits differ
same_but_limits : (b c : Configuration) → IsSameTrust b c → b ≡ with_limits c b.limits
same_but_limits b c same =
    λ i. record { relationships = same.relationships i; seeds = same.seeds i; floors = same.floors i; limits = b.limits }

-- they have the same domains
pub domain_alike : (b c : Configuration) → IsSameTrust b c → (domain : List ℕ) → HasDomain b domain → HasDomain c domain
domain_alike b c same domain h = subst (λ (d : Configuration). HasDomain d domain) (same_but_limits b c same) h

other_limits : (c : Configuration) (limits : Limits) (domains : List (List ℕ)) → AreDomains (with_limits c limits) domains → AreDomains c domains
other_limits c limits domains h = record { rising = h.rising; sound = h.sound; complete = h.complete }

pub domains_alike : (b c : Configuration) → IsSameTrust b c → (domains : List (List ℕ)) → AreDomains b domains → AreDomains c domains
domains_alike b c same domains h =
    other_limits c b.limits domains (subst (λ (d : Configuration). AreDomains d domains) (same_but_limits b c same) h)

-- the digest does not say the limits
no_limits : (c : Configuration) (limits : Limits) → config_id_of (with_limits c limits) ≡ config_id_of c
unfolding config_id_of config_text
no_limits c limits = refl

-- so they have one digest
pub one_digest : (b c : Configuration) → IsSameTrust b c → config_id_of b ≡ config_id_of c
one_digest b c same = ap config_id_of (same_but_limits b c same) ∙ no_limits c b.limits

-- the same receipts fit
pub fits_alike : (b c : Configuration) → IsSameTrust b c → (r : Receipt) → IsFitting b r → IsFitting c r
fits_alike b c same r fits = record {
  relationship = fits.relationship;
  has = subst (λ (rs : List Relationship). Contains rs fits.relationship) same.relationships fits.has;
  domain = fits.domain;
  endpoint = fits.endpoint;
  reaches = subst (λ (fs : List Floor). ReachesEach fs r.domain r.document) same.floors fits.reaches;
}

-- a chain leads on under both
leads_alike : (b c : Configuration) → IsSameTrust b c → (records : List Distrust) (from to : Pair) (chain : List Receipt)
    → Leads b records from chain to → Leads c records from chain to
leads_alike b c same records from to [] h = h
leads_alike b c same records from to (r ∷ chain) h =
    (fits_alike b c same r h.0, h.1, leads_alike b c same records (pair_of r) to chain h.2)

-- what is a chain under the one is a chain under the other
pub chain_alike : (b c : Configuration) → IsSameTrust b c → (records : List Distrust) (chain : List Receipt)
    → IsChain b records chain → IsChain c records chain
chain_alike b c same records chain h = record {
  some = h.some;
  seed = h.seed;
  configured = subst (λ (ss : List Seed). Contains ss h.seed) same.seeds h.configured;
  leads = leads_alike b c same records (pair_of_seed h.seed) (last_pair (pair_of_seed h.seed) chain) chain h.leads;
}
