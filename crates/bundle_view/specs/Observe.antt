-- What is observed: the bytes that an endpoint served, and the verdict of TLS on that endpoint
-- (SPIFFE Federation, section 5.2, profile https_spiffe)
use Rattle.std.specs.Prelude.{◌≡◌, ℕ, ◌≤◌, ◌⊎◌, List, length, Contains, Some, None}
use Rattle.spiffe_name.specs.SpiffeId.{Id}
use Rattle.bundle_doc.specs.Bundle.{Bundle, IsDocument, HasKeyId, document_limit}
use Rattle.bundle_doc.specs.Refusal.{RefusesBytes}
use Rattle.bundle_doc.specs.declared.error.DocError.{DocError}
use Rattle.bundle_doc.specs.declared.error.DocError.TheVariants.{NoMemory as NoMemoryToRead}
use Rattle.fed_config.specs.Configuration.{Configuration, IsConfiguration, IsRelationshipOf}
use Rattle.fed_config.specs.Configuration.{ReachesFloor}
use Rattle.fed_config.specs.declared.relationship.Relationship.{Relationship}
use Rattle.receipt_core.specs.declared.distrust.Distrust.{Distrust}
use Rattle.receipt_core.specs.Receipt.{Receipt, pair_of, with_receipt}
use Rattle.receipt_core.specs.Acceptance.{Meaning, IsMember, MissesFloor}
use Rattle.closure_core.specs.declared.error.TakeError.{TakeError}
use Rattle.closure_core.specs.declared.error.TakeError.TheVariants.{BelowFloor, Full, NoMemory}
use Rattle.closure_core.specs.Refusals.{IsOneTooMany}
use Rattle.closure_core.specs.AcceptedList.{IsAcceptedList}
use Rattle.closure_core.specs.Changes.{HeldAndRoom, IsUnchanged}
use Rattle.bundle_view.specs.Conflicts.{id_in}
use Rattle.bundle_view.specs.Current.{IsCurrent}
use Rattle.bundle_view.specs.declared.observation.Verdict.{Verdict}
use Rattle.bundle_view.specs.declared.observe_error.ObserveError.{ObserveError}
use Rattle.bundle_view.specs.declared.observe_error.ObserveError.TheVariants.{NoRelationship}
use Rattle.bundle_view.specs.declared.observe_error.ObserveError.TheVariants.{WrongEndpoint}
use Rattle.bundle_view.specs.declared.observe_error.ObserveError.TheVariants.{NoVoucherBundle}
use Rattle.bundle_view.specs.declared.observe_error.ObserveError.TheVariants.{KeyNotInCurrent}
use Rattle.bundle_view.specs.declared.observe_error.ObserveError.TheVariants.{Document, Take}

-- these bytes, as a document of the domain, and the verdict on the endpoint that served them
pub record FetchedBundle : Type 0 where
  pub domain : List ℕ
  pub bytes : List ℕ
  pub verdict : Verdict

-- ---- the verdict

-- The configuration has a relationship with the domain, and this is its endpoint.
pub record IsEndpointOf (c : Configuration) (domain : List ℕ) (endpoint : Id) : Type 0 where
  pub relationship : Relationship
  pub found : IsRelationshipOf c domain (Some relationship)
  pub endpoint_is : relationship.endpoint ≡ endpoint

-- It has one, whose endpoint is another.
pub record HasOtherEndpoint (c : Configuration) (domain : List ℕ) (endpoint : Id) : Type 0 where
  pub relationship : Relationship
  pub found : IsRelationshipOf c domain (Some relationship)
  pub other : relationship.endpoint ≡ endpoint → ⊥

-- the key that was shown, distrusted in the endpoint's domain
abbrev pub distrust_in : Verdict → Distrust
distrust_in verdict = record { domain = verdict.endpoint.domain; key = verdict.key }

-- The endpoint is that of the relationship; of its trust domain this document is the current one,
-- an X.509 authority of it has the key, and the key is not distrusted there.
pub record IsAuthentic (m : Meaning) (domain : List ℕ) (verdict : Verdict)
    (voucher : Bundle) : Type 0 where
  pub endpoint : IsEndpointOf m.config domain verdict.endpoint
  pub current : IsCurrent m verdict.endpoint.domain (Some voucher)
  pub key : HasKeyId voucher.authorities verdict.key
  pub trusted : Contains m.records (distrust_in verdict) → ⊥

-- The endpoint is that of the relationship, and this is the current document of its trust domain;
-- but no X.509 authority of it has the key, or the key is distrusted there.
pub record HasForeignKey (m : Meaning) (domain : List ℕ) (verdict : Verdict) : Type 0 where
  pub endpoint : IsEndpointOf m.config domain verdict.endpoint
  pub voucher : Bundle
  pub current : IsCurrent m verdict.endpoint.domain (Some voucher)
  pub foreign : (HasKeyId voucher.authorities verdict.key → ⊥)
      ⊎ Contains m.records (distrust_in verdict)

-- Some document makes it authentic.
abbrev pub IsVouchedFor : Meaning → List ℕ → Verdict → Type 0
IsVouchedFor m domain verdict = (voucher : Bundle) × IsAuthentic m domain verdict voucher

-- ---- the receipt

abbrev pub receipt_of : List ℕ → Verdict → Bundle → Bundle → Receipt
receipt_of domain verdict voucher document =
    record {
      domain = domain;
      endpoint = verdict.endpoint;
      document = document;
      voucher = id_in verdict.endpoint.domain voucher;
      key = verdict.key;
    }

-- It says: this document of the domain, which the bytes give and which reaches the domain's floor,
-- was served by this endpoint, which showed this key of the current document of its trust domain.
pub record IsObservation (m : Meaning) (fetched : FetchedBundle) (r : Receipt) : Type 0 where
  pub voucher : Bundle
  pub authentic : IsAuthentic m fetched.domain fetched.verdict voucher
  pub document : Bundle
  pub read : IsDocument fetched.bytes document
  pub reaches : ReachesFloor m.config fetched.domain document
  pub is : r ≡ receipt_of fetched.domain fetched.verdict voucher document

-- The receipt, whose voucher is the current document of before, is held, and its document accepted.
pub record HasObserved (old : Meaning) (fetched : FetchedBundle) (new : Meaning)
    (r : Receipt) : Type 0 where
  pub observation : IsObservation old fetched r
  pub meaning : new ≡ record old { held = with_receipt r old.held }
  pub held : Contains new.held r
  pub accepted : IsMember new (pair_of r)

-- ---- refusals, each with what those before it lacked

-- What only the domain and its endpoint decide: no relationship, or one with another endpoint.
abbrev pub RefusesEndpoint : Configuration → List ℕ → Id → ObserveError → Type 0
RefusesEndpoint c domain endpoint NoRelationship = IsRelationshipOf c domain None
RefusesEndpoint c domain endpoint WrongEndpoint = HasOtherEndpoint c domain endpoint
RefusesEndpoint c domain endpoint _ = ⊥

-- what the verdict is refused for
abbrev pub RefusesVerdict : Meaning → List ℕ → Verdict → ObserveError → Type 0
RefusesVerdict m domain verdict NoVoucherBundle = IsEndpointOf m.config domain verdict.endpoint
    × IsCurrent m verdict.endpoint.domain None
RefusesVerdict m domain verdict KeyNotInCurrent = HasForeignKey m domain verdict
RefusesVerdict m domain verdict e = RefusesEndpoint m.config domain verdict.endpoint e

-- The verdict is authentic, and the bytes are a document that is below the floor of the domain.
pub record HasLowDocument (m : Meaning) (fetched : FetchedBundle) : Type 0 where
  pub vouched : IsVouchedFor m fetched.domain fetched.verdict
  pub document : Bundle
  pub read : IsDocument fetched.bytes document
  pub misses : MissesFloor m.config fetched.domain document

-- The document is below its floor; or the receipt is new, and no more may be held; or memory
-- was wanted, for the tree of all bytes that are within the limit.
abbrev pub RefusesTaking : Meaning → FetchedBundle → TakeError → Type 0
RefusesTaking m fetched BelowFloor = HasLowDocument m fetched
RefusesTaking m fetched Full = (r : Receipt) × IsObservation m fetched r × IsOneTooMany m r
RefusesTaking m fetched NoMemory = IsVouchedFor m fetched.domain fetched.verdict
    × (length fetched.bytes ≤ document_limit)
RefusesTaking m fetched _ = ⊥

-- lack of memory is the same cause in each place
abbrev pub of_document : DocError → ObserveError
of_document NoMemoryToRead = Take NoMemory
of_document e = Document e

abbrev pub RefusesObservation : Meaning → FetchedBundle → ObserveError → Type 0
RefusesObservation m fetched (Document e) = IsVouchedFor m fetched.domain fetched.verdict
    × (e ≡ NoMemoryToRead → ⊥) × RefusesBytes fetched.bytes e
RefusesObservation m fetched (Take e) = RefusesTaking m fetched e
RefusesObservation m fetched e = RefusesVerdict m fetched.domain fetched.verdict e

-- Nothing is observed, and nothing lost.
pub record HasNotObserved (old : HeldAndRoom) (fetched : FetchedBundle) (new : HeldAndRoom)
    (why : ObserveError) : Type 0 where
  pub cause : RefusesObservation old.meaning fetched why
  pub unchanged : IsUnchanged old new

-- ---- one observation

-- What an observation is asked of: a meaning whose configuration has its form, and a bundle. These
-- are the accepted documents of the trust domain of the endpoint.
pub record ObserveCall : Type 0 where
  pub meaning : Meaning
  pub fetched : FetchedBundle
  pub documents : List Bundle
  pub form : IsConfiguration meaning.config
  pub list : IsAcceptedList meaning fetched.verdict.endpoint.domain documents
