-- What the accepted documents offer
use Rattle.std.specs.Prelude.{◌≡◌, ◌↔◌, ℕ, List, ◌++◌, flat_map, Contains, IsTrue}
use Rattle.std.specs.BTreeSet.{BTreeSet, contains}
use Rattle.bundle_doc.specs.Bundle.{Bundle}
use Rattle.fed_config.specs.Configuration.{HasDomain}
use Rattle.receipt_core.specs.Receipt.{Pair, offers_of, triple_cmp}
use Rattle.receipt_core.specs.Acceptance.{Meaning, IsMember}
use Rattle.receipt_core.specs.declared.triple.Triple.{Triple}
use Rattle.closure_core.specs.AcceptedList.{IsAcceptedList, document_of}

-- an accepted document offers it
pub record HasOfferer (m : Meaning) (t : Triple) : Type 0 where
  pub offerer : Pair
  pub accepted : IsMember m offerer
  pub offers : Contains (offers_of offerer) t

-- Only accepted documents offer these, and they have all that accepted documents of these domains
-- offer.
pub record AreOffersFrom (m : Meaning) (domains : List (List ℕ)) (offers : List Triple)
    : Type 0 where
  pub sound : (t : Triple) → Contains offers t → HasOfferer m t
  pub complete : (p : Pair) (t : Triple) → Contains domains p.domain → IsMember m p
      → Contains (offers_of p) t → Contains offers t

-- what the accepted documents of the domain offer was added
pub record AddsOffersOf (m : Meaning) (domain : List ℕ) (old new : List Triple) : Type 0 where
  pub documents : List Bundle
  pub are : IsAcceptedList m domain documents
  pub now : new ≡ old ++ flat_map (λ d. offers_of (document_of domain d)) documents

-- the same for all domains of the configuration
pub record AreAllOffers (m : Meaning) (offers : List Triple) : Type 0 where
  pub sound : (t : Triple) → Contains offers t → HasOfferer m t
  pub complete : (p : Pair) (t : Triple) → HasDomain m.config p.domain → IsMember m p
      → Contains (offers_of p) t → Contains offers t

-- a set of all these
pub record IsOfferSet (m : Meaning) (offered : BTreeSet Triple) : Type 0 where
  pub offers : List Triple
  pub are : AreAllOffers m offers
  pub exactly : (t : Triple) → (IsTrue (contains triple_cmp offered t) ↔ Contains offers t)
