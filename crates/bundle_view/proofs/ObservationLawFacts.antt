-- One receipt of an observation, and one cause of a refusal
use Rattle.std.proofs.Common.{◌≡◌, inl, inr, List, Some, None, refl, sym, ap, ◌∙◌, subst}
use Rattle.bundle_doc.specs.Bundle.{Bundle, HasKeyId}
use Rattle.bundle_doc.proofs.BundleFacts.{one_document}
use Rattle.bundle_doc.proofs.RefusalFacts.{one_cause as one_cause_of_bytes, refused_none}
use Rattle.fed_config.specs.Configuration.{IsConfiguration, IsRelationshipOf, ReachesFloor}
use Rattle.fed_config.specs.declared.relationship.Relationship.{Relationship}
use Rattle.receipt_core.specs.Receipt.{Receipt}
use Rattle.receipt_core.specs.Acceptance.{Meaning}
use Rattle.closure_core.specs.declared.error.TakeError.TheVariants.{UnknownDomain, WrongEndpoint as OtherEndpoint, BelowFloor, Full, NoMemory, ConfigDiffers}
use Rattle.closure_core.specs.AcceptedList.{IsAcceptedList}
use Rattle.bundle_view.specs.Current.{IsCurrent}
use Rattle.bundle_view.specs.Observe.{IsEndpointOf, HasOtherEndpoint, FetchedBundle, IsVouchedFor, IsObservation, receipt_of, RefusesObservation}
use Rattle.bundle_view.specs.declared.observe_error.ObserveError.{ObserveError}
use Rattle.bundle_view.specs.declared.observe_error.ObserveError.TheVariants.{NoRelationship, WrongEndpoint, NoVoucherBundle, KeyNotInCurrent, Document, Take}
use Rattle.bundle_view.proofs.CurrentFacts.{one_current}
use Rattle.receipt_core.proofs.SearchFacts.{one_relationship}

module _ (m : Meaning) (fetched : FetchedBundle) (documents : List Bundle) (form : IsConfiguration m.config)
    (list : IsAcceptedList m fetched.verdict.endpoint.domain documents) where
  -- this is a cause for which the observation is refused
  abbrev Refuses : ObserveError → Type 0
  Refuses = RefusesObservation m fetched

  -- ---- each cause has what those before it lacked

  -- for all causes but the first the domain has a relationship
  found : (e : ObserveError) → (e ≡ NoRelationship → ⊥) → Refuses e → (x : Relationship) × IsRelationshipOf m.config fetched.domain (Some x)
  found NoRelationship n h = absurd (n refl)
  found WrongEndpoint n h = (h.relationship, h.found)
  found NoVoucherBundle n h = (h.0.relationship, h.0.found)
  found KeyNotInCurrent n h = (h.endpoint.relationship, h.endpoint.found)
  found (Document d) n h = (h.0.1.endpoint.relationship, h.0.1.endpoint.found)
  found (Take BelowFloor) n h = (h.vouched.1.endpoint.relationship, h.vouched.1.endpoint.found)
  found (Take Full) n h = (h.1.authentic.endpoint.relationship, h.1.authentic.endpoint.found)
  found (Take NoMemory) n h = (h.0.1.endpoint.relationship, h.0.1.endpoint.found)
  found (Take e) n h = absurd h

  -- for all causes but the first two the endpoint is the relationship's
  served : (e : ObserveError) → (e ≡ NoRelationship → ⊥) → (e ≡ WrongEndpoint → ⊥) → Refuses e → IsEndpointOf m.config fetched.domain fetched.verdict.endpoint
  served NoRelationship n o h = absurd (n refl)
  served WrongEndpoint n o h = absurd (o refl)
  served NoVoucherBundle n o h = h.0
  served KeyNotInCurrent n o h = h.endpoint
  served (Document d) n o h = h.0.1.endpoint
  served (Take BelowFloor) n o h = h.vouched.1.endpoint
  served (Take Full) n o h = h.1.authentic.endpoint
  served (Take NoMemory) n o h = h.0.1.endpoint
  served (Take e) n o h = absurd h

  -- for all causes that are not of the verdict the verdict is authentic
  vouched : (e : ObserveError) → (e ≡ NoRelationship → ⊥) → (e ≡ WrongEndpoint → ⊥) → (e ≡ NoVoucherBundle → ⊥)
      → (e ≡ KeyNotInCurrent → ⊥) → Refuses e → IsVouchedFor m fetched.domain fetched.verdict
  vouched NoRelationship n o p q h = absurd (n refl)
  vouched WrongEndpoint n o p q h = absurd (o refl)
  vouched NoVoucherBundle n o p q h = absurd (p refl)
  vouched KeyNotInCurrent n o p q h = absurd (q refl)
  vouched (Document d) n o p q h = h.0
  vouched (Take BelowFloor) n o p q h = h.vouched
  vouched (Take Full) n o p q h = (h.1.voucher, h.1.authentic)
  vouched (Take NoMemory) n o p q h = h.0
  vouched (Take e) n o p q h = absurd h

  -- for all causes but the first three the endpoint's trust domain has a current document
  some_current : (e : ObserveError) → (e ≡ NoRelationship → ⊥) → (e ≡ WrongEndpoint → ⊥) → (e ≡ NoVoucherBundle → ⊥)
      → Refuses e → (d : Bundle) × IsCurrent m fetched.verdict.endpoint.domain (Some d)
  some_current NoRelationship n o p h = absurd (n refl)
  some_current WrongEndpoint n o p h = absurd (o refl)
  some_current NoVoucherBundle n o p h = absurd (p refl)
  some_current KeyNotInCurrent n o p h = (h.voucher, h.current)
  some_current (Document d) n o p h = (h.0.0, h.0.1.current)
  some_current (Take BelowFloor) n o p h = (h.vouched.0, h.vouched.1.current)
  some_current (Take Full) n o p h = (h.1.voucher, h.1.authentic.current)
  some_current (Take NoMemory) n o p h = (h.0.0, h.0.1.current)
  some_current (Take e) n o p h = absurd h

  -- ---- so no two of these hold together

  -- a domain does not both have a relationship and lack one
  no_relationship : IsRelationshipOf m.config fetched.domain None → (x : Relationship) → IsRelationshipOf m.config fetched.domain (Some x) → ⊥
  no_relationship none x is = none x is.0 is.1

  -- the endpoint of a domain is not both another and this one
  two_endpoints : HasOtherEndpoint m.config fetched.domain fetched.verdict.endpoint → IsEndpointOf m.config fetched.domain fetched.verdict.endpoint → ⊥
  two_endpoints other is =
      let same : other.relationship ≡ is.relationship =
      one_relationship m.config other.relationship is.relationship form other.found.0 is.found.0 (other.found.1 ∙ sym is.found.1) in
      other.other (ap (λ (x : Relationship). x.endpoint) same ∙ is.endpoint_is)

  -- the endpoint's trust domain has one current document at most
  one_voucher : (a b : Bundle) → IsCurrent m fetched.verdict.endpoint.domain (Some a) → IsCurrent m fetched.verdict.endpoint.domain (Some b) → a ≡ b
  one_voucher a b p q = let same : Some a ≡ Some b = one_current m fetched.verdict.endpoint.domain documents (Some a) (Some b) list p q in cc

  -- a key is not both refused and that of an authentic verdict
  foreign_and_own : Refuses KeyNotInCurrent → IsVouchedFor m fetched.domain fetched.verdict → ⊥
  foreign_and_own foreign is =
      let same : foreign.voucher ≡ is.0 = one_voucher foreign.voucher is.0 foreign.current is.1.current in
      elim foreign.foreign [
        | inl lacks ↦ lacks (subst (λ (d : Bundle). HasKeyId d.authorities fetched.verdict.key) (sym same) is.1.key)
        | inr distrusted ↦ is.1.trusted distrusted
      ]

  -- a document that is below the floor makes no observation
  low_or_observed : Refuses (Take BelowFloor) → (r : Receipt) → IsObservation m fetched r → ⊥
  low_or_observed low r is =
      let same : is.document ≡ low.document = one_document fetched.bytes is.document low.document is.read low.read in
      low.misses.below (subst (λ (d : Bundle). ReachesFloor m.config fetched.domain d) same is.reaches low.misses.floor low.misses.has low.misses.of_domain)

  -- ---- the laws

  -- an observation has one receipt, as `laws::one_observation` says
  pub one_receipt : (r s : Receipt) → IsObservation m fetched r → IsObservation m fetched s → r ≡ s
  one_receipt r s p q =
      let voucher : p.voucher ≡ q.voucher = one_voucher p.voucher q.voucher p.authentic.current q.authentic.current in
      let document : p.document ≡ q.document = one_document fetched.bytes p.document q.document p.read q.read in
      p.is ∙ ap (λ (v : Bundle). receipt_of fetched.domain fetched.verdict v p.document) voucher
      ∙ ap (receipt_of fetched.domain fetched.verdict q.voucher) document ∙ sym q.is

  -- an observation is refused for one cause at most, other than for memory, as
  -- `laws::one_observation` says
  pub one_cause : (e f : ObserveError) → Refuses e → Refuses f → (e ≡ Take NoMemory → ⊥) → (f ≡ Take NoMemory → ⊥) → e ≡ f
  one_cause NoRelationship NoRelationship p q l k = refl
  one_cause NoRelationship f p q l k = let is : (x : Relationship) × IsRelationshipOf m.config fetched.domain (Some x) =
      found f (λ h. cc) q in absurd (no_relationship p is.0 is.1)
  one_cause e NoRelationship p q l k = let is : (x : Relationship) × IsRelationshipOf m.config fetched.domain (Some x) =
      found e (λ h. cc) p in absurd (no_relationship q is.0 is.1)
  one_cause WrongEndpoint WrongEndpoint p q l k = refl
  one_cause WrongEndpoint f p q l k = absurd (two_endpoints p (served f (λ h. cc) (λ h. cc) q))
  one_cause e WrongEndpoint p q l k = absurd (two_endpoints q (served e (λ h. cc) (λ h. cc) p))
  one_cause NoVoucherBundle NoVoucherBundle p q l k = refl
  one_cause NoVoucherBundle f p q l k = let is : (d : Bundle) × IsCurrent m fetched.verdict.endpoint.domain (Some d) =
      some_current f (λ h. cc) (λ h. cc) (λ h. cc) q in absurd (p.1 is.0 is.1.accepted)
  one_cause e NoVoucherBundle p q l k = let is : (d : Bundle) × IsCurrent m fetched.verdict.endpoint.domain (Some d) =
      some_current e (λ h. cc) (λ h. cc) (λ h. cc) p in absurd (q.1 is.0 is.1.accepted)
  one_cause KeyNotInCurrent KeyNotInCurrent p q l k = refl
  one_cause KeyNotInCurrent f p q l k = absurd (foreign_and_own p (vouched f (λ h. cc) (λ h. cc) (λ h. cc) (λ h. cc) q))
  one_cause e KeyNotInCurrent p q l k = absurd (foreign_and_own q (vouched e (λ h. cc) (λ h. cc) (λ h. cc) (λ h. cc) p))
  one_cause (Document d) (Document e) p q l k = ap Document (one_cause_of_bytes fetched.bytes d e p.2 q.2 p.1 q.1)
  one_cause (Document d) (Take Full) p q l k = absurd (refused_none fetched.bytes d q.1.document p.2 p.1 q.1.read)
  one_cause (Take Full) (Document d) p q l k = absurd (refused_none fetched.bytes d p.1.document q.2 q.1 p.1.read)
  one_cause (Document d) (Take BelowFloor) p q l k = absurd (refused_none fetched.bytes d q.document p.2 p.1 q.read)
  one_cause (Take BelowFloor) (Document d) p q l k = absurd (refused_none fetched.bytes d p.document q.2 q.1 p.read)
  one_cause (Take BelowFloor) (Take BelowFloor) p q l k = refl
  one_cause (Take BelowFloor) (Take Full) p q l k = absurd (low_or_observed p q.0 q.1)
  one_cause (Take Full) (Take BelowFloor) p q l k = absurd (low_or_observed q p.0 p.1)
  one_cause (Take Full) (Take Full) p q l k = refl
  one_cause (Take NoMemory) f p q l k = absurd (l refl)
  one_cause e (Take NoMemory) p q l k = absurd (k refl)
  one_cause (Take UnknownDomain) f p q l k = absurd p
  one_cause (Take OtherEndpoint) f p q l k = absurd p
  one_cause (Take ConfigDiffers) f p q l k = absurd p
  one_cause e (Take f) p q l k = absurd q

  -- what is refused, other than for memory or for being one too many, is not an observation
  pub refused_or_observed : (r : Receipt) (e : ObserveError) → IsObservation m fetched r → Refuses e
      → (e ≡ Take Full → ⊥) → (e ≡ Take NoMemory → ⊥) → ⊥
  refused_or_observed r NoRelationship is h n k = no_relationship h is.authentic.endpoint.relationship is.authentic.endpoint.found
  refused_or_observed r WrongEndpoint is h n k = two_endpoints h is.authentic.endpoint
  refused_or_observed r NoVoucherBundle is h n k = h.1 is.voucher is.authentic.current.accepted
  refused_or_observed r KeyNotInCurrent is h n k = foreign_and_own h (is.voucher, is.authentic)
  refused_or_observed r (Document d) is h n k = refused_none fetched.bytes d is.document h.2 h.1 is.read
  refused_or_observed r (Take BelowFloor) is h n k = low_or_observed h r is
  refused_or_observed r (Take Full) is h n k = n refl
  refused_or_observed r (Take NoMemory) is h n k = k refl
  refused_or_observed r (Take e) is h n k = h
