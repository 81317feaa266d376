-- What an observation rests on: that what is vouched for and held is accepted.
use Rattle.std.proofs.Common.{◌≡◌, ℕ, ◌⊎◌, inl, inr, ◌↔◌, List, [], ◌∷◌, ◌++◌, Option, None, Result, Ok, Err}
use Rattle.std.proofs.Common.{MatchResult, refl, sym, ap, ◌∙◌, subst}
use Rattle.std.specs.List.{Contains, AllByRecursion}
use Rattle.spiffe_name.specs.SpiffeId.{Id}
use Rattle.bundle_doc.specs.Bundle.{Bundle, IsDocument}
use Rattle.bundle_doc.specs.Refusal.{RefusesBytes}
use Rattle.bundle_doc.specs.declared.document.DocId.{DocId}
use Rattle.bundle_doc.specs.declared.error.DocError.{DocError}
use Rattle.bundle_doc.specs.declared.error.DocError.TheVariants.{TooLong, NotJson, NotObject, NoKeys, BadSequence}
use Rattle.bundle_doc.specs.declared.error.DocError.TheVariants.{BadRefreshHint, CanonicalTooLong}
use Rattle.bundle_doc.specs.declared.error.DocError.TheVariants.{NoMemory as NoMemoryToRead}
use Rattle.fed_config.specs.Configuration.{Configuration, IsConfiguration, ReachesFloor}
use Rattle.fed_config.specs.declared.relationship.Relationship.{Relationship}
use Rattle.receipt_core.specs.Receipt.{Receipt, IsReceipt, Pair, pair_of, receipt_cmp, with_receipt}
use Rattle.receipt_core.specs.Order.{receipt_total}
use Rattle.receipt_core.specs.Sets.{AreSets}
use Rattle.receipt_core.specs.Acceptance.{IsFitting, MissesFloor, Vouches, Meaning, IsMeaning, IsMember, pair_of_seed}
use Rattle.receipt_core.proofs.LineFacts.{one_receipt}
use Rattle.receipt_core.proofs.RisingFacts.{AreSets-from_total}
use Rattle.receipt_core.proofs.SearchFacts.{one_relationship}
use Rattle.closure_core.specs.declared.error.TakeError.{TakeError}
use Rattle.closure_core.specs.declared.error.TakeError.TheVariants.{UnknownDomain, WrongEndpoint as OtherEndpoint, BelowFloor, Full, NoMemory, ConfigDiffers}
use Rattle.closure_core.specs.declared.outcome.Taken.{Taken}
use Rattle.closure_core.specs.declared.outcome.Taken.TheVariants.{New as TakenNew, Already as TakenAlready}
use Rattle.closure_core.specs.Refusals.{Room, RefusesReceipt, IsOfWrongEndpoint}
use Rattle.closure_core.specs.Changes.{HeldAndRoom, TakesOk}
use Rattle.closure_core.specs.AcceptedList.{document_of}
use Rattle.closure_core.proofs.MemberFacts.{leads_more}
use Rattle.bundle_view.specs.Conflicts.{id_in}
use Rattle.bundle_view.specs.Current.{IsCurrent}
use Rattle.bundle_view.specs.Observe.{IsEndpointOf, IsVouchedFor, IsObservation, HasObserved, of_document}
use Rattle.bundle_view.specs.Observe.{RefusesEndpoint, RefusesVerdict, RefusesTaking, RefusesObservation}
use Rattle.bundle_view.specs.Observe.{HasNotObserved, FetchedBundle}
use Rattle.bundle_view.specs.Inside.Observing.{IsVoucher, HasKept, HasNotKept}
use Rattle.bundle_view.specs.declared.observation.Verdict.{Verdict}
use Rattle.bundle_view.specs.declared.observe_error.ObserveError.{ObserveError}
use Rattle.bundle_view.specs.declared.observe_error.ObserveError.TheVariants.{NoRelationship, WrongEndpoint, Take}

-- ---- what is vouched for and held is accepted

-- receipts are kept as sets
sets : AreSets IsReceipt receipt_cmp
sets = AreSets-from_total IsReceipt receipt_cmp receipt_total one_receipt

-- what holds of all items and of one more holds of all with that one at the end
all_and_one : {A : Type 0} (P : A → Type 0) (xs : List A) (x : A) → AllByRecursion P xs → P x → AllByRecursion P (xs ++ x ∷ [])
all_and_one P [] x all h = (h, tt)
all_and_one P (y ∷ ys) x all h = (all.0, all_and_one P ys x all.1 h)

-- receipts that are held are still held if more are
all_within : (old new : List Receipt) (rs : List Receipt) → ((r : Receipt) → Contains old r → Contains new r)
    → AllByRecursion (Contains old) rs → AllByRecursion (Contains new) rs
all_within old new [] more all = tt
all_within old new (r ∷ rs) more all = (more r all.0, all_within old new rs more all.1)

-- the meaning with one more receipt
abbrev holding : Meaning → Receipt → Meaning
holding m r = record m { held = with_receipt r m.held }

-- with a receipt that an accepted document vouches for, the receipt's document is accepted
accepted_then : (m : Meaning) (p : Pair) (r : Receipt) → IsMeaning m → IsReceipt r → IsMember m p → IsFitting m.config r
    → Vouches m.records p r → IsMember (holding m r) (pair_of r)
accepted_then m p r valid form is fits vouches =
    let members : (a : Receipt) → Contains (with_receipt r m.held) a ↔ ((r ≡ a) ⊎ Contains m.held a) = λ a. sets.members r a m.held form valid.receipts in
    record {
      seed = is.seed;
      configured = is.configured;
      chain = is.chain ++ r ∷ [];
      held = all_and_one (Contains (with_receipt r m.held)) is.chain r
          (all_within m.held (with_receipt r m.held) is.chain (λ a h. (members a).1 (inr h)) is.held)
          ((members r).1 (inl refl));
      leads = leads_more m.config m.records (pair_of_seed is.seed) is.chain p r is.leads fits vouches;
    }

-- ---- the receipt of an observation

-- a bundle by its parts
abbrev pub fetched_as : List ℕ → List ℕ → Verdict → FetchedBundle
fetched_as domain bytes verdict = record { domain = domain; bytes = bytes; verdict = verdict }

-- the receipt of an observation, with the id of its voucher
abbrev observed_of : List ℕ → Verdict → DocId → Bundle → Receipt
observed_of domain verdict id document = record { domain = domain; endpoint = verdict.endpoint; document = document; voucher = id; key = verdict.key }

-- an authentic verdict and bytes that are a document are an observation with this receipt
observation : (m : Meaning) (domain bytes : List ℕ) (verdict : Verdict) (id : DocId) (document : Bundle)
    → IsVoucher m domain verdict id → IsDocument bytes document → ReachesFloor m.config domain document
    → IsObservation m (fetched_as domain bytes verdict) (observed_of domain verdict id document)
observation m domain bytes verdict id document is read reaches = record {
  voucher = is.voucher;
  authentic = is.authentic;
  document = document;
  read = read;
  reaches = reaches;
  is = ap (λ (i : DocId). observed_of domain verdict i document) is.is;
}

-- a receipt of the relationship's domain and endpoint whose document reaches the floor fits
fits_of : (m : Meaning) (domain : List ℕ) (verdict : Verdict) (r : Receipt)
    → IsEndpointOf m.config domain verdict.endpoint → r.domain ≡ domain → r.endpoint ≡ verdict.endpoint
    → ReachesFloor m.config r.domain r.document → IsFitting m.config r
fits_of m domain verdict r is e f reaches = record {
  reaches = reaches;
  relationship = is.relationship;
  has = is.found.0;
  domain = is.found.1 ∙ sym e;
  endpoint = is.endpoint_is ∙ sym f;
}

-- once the receipt is held, its document is accepted, since the voucher is
accepted_of : (m : Meaning) (domain bytes : List ℕ) (verdict : Verdict) (id : DocId) (document : Bundle) → IsMeaning m
    → IsReceipt (observed_of domain verdict id document) → IsVoucher m domain verdict id → ReachesFloor m.config domain document
    → IsMember (holding m (observed_of domain verdict id document)) (pair_of (observed_of domain verdict id document))
accepted_of m domain bytes verdict id document valid form is reaches =
    let r : Receipt = observed_of domain verdict id document in
    accepted_then m (document_of verdict.endpoint.domain is.voucher) r valid form is.authentic.current.accepted
    (fits_of m domain verdict r is.authentic.endpoint refl refl reaches)
    record { endpoint = refl; voucher = ap (λ (i : DocId). i.0) (sym is.is); key = is.authentic.key; trusted = is.authentic.trusted }

-- after the receipt was taken it is held, and nothing else changed, whether it was held before or
-- not
meaning_of_took : (old new : HeldAndRoom) (r : Receipt) (taken : Taken) → IsMeaning old.meaning → TakesOk old r new taken → new.meaning ≡ holding old.meaning r
meaning_of_took old new r (TakenNew n) valid took = took.meaning
meaning_of_took old new r TakenAlready valid took =
    ap (λ (s : HeldAndRoom). s.meaning) took.same
    ∙ ap (λ (rs : List Receipt). record old.meaning { held = rs }) (sym (sets.present r old.meaning.held valid.rising took.held))

-- if the receipt was taken, the observation is made
observed : (old new : HeldAndRoom) (domain bytes : List ℕ) (verdict : Verdict) (id : DocId) (document : Bundle)
    → IsMeaning old.meaning → IsReceipt (observed_of domain verdict id document)
    → IsVoucher old.meaning domain verdict id → IsDocument bytes document → ReachesFloor old.meaning.config domain document
    → HasKept old (observed_of domain verdict id document) new
    → HasObserved old.meaning (fetched_as domain bytes verdict) new.meaning (observed_of domain verdict id document)
observed old new domain bytes verdict id document valid form is read reaches kept =
    let r : Receipt = observed_of domain verdict id document in
    let meaning : new.meaning ≡ holding old.meaning r = meaning_of_took old new r kept.taken valid kept.took in
    record {
      observation = observation old.meaning domain bytes verdict id document is read reaches;
      meaning = meaning;
      held = subst (λ (m : Meaning). Contains m.held r) (sym meaning) ((sets.members r r old.meaning.held form valid.receipts).1 (inl refl));
      accepted = subst (λ (m : Meaning). IsMember m (pair_of r)) (sym meaning) (accepted_of old.meaning domain bytes verdict id document valid form is reaches);
    }

-- ---- refusals

-- a verdict whose voucher was found is authentic
vouched_for : (m : Meaning) (domain : List ℕ) (verdict : Verdict) (id : DocId) → IsVoucher m domain verdict id → IsVouchedFor m domain verdict
vouched_for m domain verdict id is = (is.voucher, is.authentic)

-- if memory ran out after the bytes were read, the observation is refused for that
wants_memory : (m : Meaning) (domain bytes : List ℕ) (verdict : Verdict) (id : DocId) (document : Bundle)
    → IsVoucher m domain verdict id → IsDocument bytes document
    → RefusesObservation m (fetched_as domain bytes verdict) (Take NoMemory)
wants_memory m domain bytes verdict id document is read = (vouched_for m domain verdict id is, read.short)

-- if the bytes are not a document, the observation is refused for that
pub unread : (m : Meaning) (domain bytes : List ℕ) (verdict : Verdict) (id : DocId) (e : DocError) → IsVoucher m domain verdict id → RefusesBytes bytes e
    → RefusesObservation m (fetched_as domain bytes verdict) (of_document e)
unread m domain bytes verdict id NoMemoryToRead is refuses = (vouched_for m domain verdict id is, refuses)
unread m domain bytes verdict id TooLong is refuses = (vouched_for m domain verdict id is, (λ h. cc), refuses)
unread m domain bytes verdict id NotJson is refuses = (vouched_for m domain verdict id is, (λ h. cc), refuses)
unread m domain bytes verdict id NotObject is refuses = (vouched_for m domain verdict id is, (λ h. cc), refuses)
unread m domain bytes verdict id NoKeys is refuses = (vouched_for m domain verdict id is, (λ h. cc), refuses)
unread m domain bytes verdict id BadSequence is refuses = (vouched_for m domain verdict id is, (λ h. cc), refuses)
unread m domain bytes verdict id BadRefreshHint is refuses = (vouched_for m domain verdict id is, (λ h. cc), refuses)
unread m domain bytes verdict id CanonicalTooLong is refuses = (vouched_for m domain verdict id is, (λ h. cc), refuses)

-- a receipt of the relationship's endpoint is not refused for another endpoint
other_endpoint : (m : Meaning) (domain : List ℕ) (verdict : Verdict) (r : Receipt) → IsConfiguration m.config
    → IsEndpointOf m.config domain verdict.endpoint → r.domain ≡ domain → r.endpoint ≡ verdict.endpoint
    → IsOfWrongEndpoint m.config r → ⊥
other_endpoint m domain verdict r form is e f wrong =
    let same : wrong.relationship ≡ is.relationship =
    one_relationship m.config wrong.relationship is.relationship form wrong.has is.found.0 (wrong.domain ∙ e ∙ sym is.found.1) in
    wrong.other (ap (λ (x : Relationship). x.endpoint) same ∙ is.endpoint_is ∙ sym f)

-- if the receipt was not taken, the observation is refused for that
untaken : (m : Meaning) (room : Room) (domain bytes : List ℕ) (verdict : Verdict) (id : DocId) (document : Bundle)
    (e : TakeError) → IsConfiguration m.config → IsVoucher m domain verdict id → IsDocument bytes document
    → ReachesFloor m.config domain document → RefusesReceipt m room (observed_of domain verdict id document) e
    → RefusesTaking m (fetched_as domain bytes verdict) e
untaken m room domain bytes verdict id document UnknownDomain form is read reaches refuses =
    refuses is.authentic.endpoint.relationship is.authentic.endpoint.found.0 is.authentic.endpoint.found.1
untaken m room domain bytes verdict id document OtherEndpoint form is read reaches refuses =
    other_endpoint m domain verdict (observed_of domain verdict id document) form is.authentic.endpoint refl refl refuses
untaken m room domain bytes verdict id document BelowFloor form is read reaches refuses =
    absurd (refuses.misses.below (reaches refuses.misses.floor refuses.misses.has refuses.misses.of_domain))
untaken m room domain bytes verdict id document Full form is read reaches refuses =
    (observed_of domain verdict id document, observation m domain bytes verdict id document is read reaches, refuses)
untaken m room domain bytes verdict id document NoMemory form is read reaches refuses = wants_memory m domain bytes verdict id document is read
untaken m room domain bytes verdict id document ConfigDiffers form is read reaches refuses = refuses

-- if the receipt was not taken, nothing is observed and nothing lost
not_kept : (old new : HeldAndRoom) (domain bytes : List ℕ) (verdict : Verdict) (id : DocId) (document : Bundle)
    (why : ObserveError) → IsConfiguration old.meaning.config → IsVoucher old.meaning domain verdict id
    → IsDocument bytes document → ReachesFloor old.meaning.config domain document
    → HasNotKept old (observed_of domain verdict id document) new why → HasNotObserved old (fetched_as domain bytes verdict) new why
not_kept old new domain bytes verdict id document why form is read reaches kept = record {
  cause = subst (RefusesObservation old.meaning (fetched_as domain bytes verdict)) (sym kept.is)
      (untaken old.meaning old.room domain bytes verdict id document kept.error form is read reaches kept.cause);
  unchanged = kept.unchanged;
}

-- a refusal of the endpoint is one of the verdict
pub refuses_endpoint : (m : Meaning) (domain : List ℕ) (verdict : Verdict) (e : ObserveError)
    → RefusesEndpoint m.config domain verdict.endpoint e → RefusesVerdict m domain verdict e
refuses_endpoint m domain verdict NoRelationship h = h
refuses_endpoint m domain verdict WrongEndpoint h = h
refuses_endpoint m domain verdict e h = absurd h

-- ---- no document of the endpoint's trust domain is accepted

-- that a domain has no current document, in the terms of the meaning and of the verdict
pub none_current : (m : Meaning) (config : Configuration) (domain home : List ℕ) (endpoint : Id) (o : Option Bundle)
    → IsEndpointOf config domain endpoint → config ≡ m.config → home ≡ endpoint.domain → o ≡ None
    → IsCurrent m home o → IsEndpointOf m.config domain endpoint × IsCurrent m endpoint.domain None
none_current m config domain home endpoint o is e f none current = (
  subst (λ (c : Configuration). IsEndpointOf c domain endpoint) e is,
  subst (λ (d : List ℕ). IsCurrent m d None) f (subst (IsCurrent m home) none current),
)

-- ---- both together

-- the receipt of a copied domain and endpoint is that of the observation
pub copied : (domain d : List ℕ) (verdict : Verdict) (e : Id) (id : DocId) (document : Bundle) (r : Receipt)
    → r ≡ record { domain = d; endpoint = e; document = document; voucher = id; key = verdict.key }
    → d ≡ domain → e ≡ verdict.endpoint → r ≡ observed_of domain verdict id document
copied domain d verdict e id document r is same_domain same_endpoint =
    is ∙ ap (λ (n : List ℕ). record { domain = n; endpoint = e; document = document; voucher = id; key = verdict.key }) same_domain
    ∙ ap (λ (i : Id). record { domain = domain; endpoint = i; document = document; voucher = id; key = verdict.key }) same_endpoint

-- the receipt that was made is that of the observation
pub observation_made : (m : Meaning) (domain bytes : List ℕ) (verdict : Verdict) (id : DocId) (document : Bundle) (r : Receipt)
    → r ≡ observed_of domain verdict id document → IsVoucher m domain verdict id → IsDocument bytes document
    → ReachesFloor m.config domain document → IsObservation m (fetched_as domain bytes verdict) r
observation_made m domain bytes verdict id document r e is read reaches =
    subst (IsObservation m (fetched_as domain bytes verdict)) (sym e) (observation m domain bytes verdict id document is read reaches)

-- if the document is below the floor, the observation is refused for that
pub too_low : (m : Meaning) (config : Configuration) (domain bytes : List ℕ) (verdict : Verdict) (id : DocId) (document : Bundle)
    → IsVoucher m domain verdict id → IsDocument bytes document → config ≡ m.config → MissesFloor config domain document
    → RefusesObservation m (fetched_as domain bytes verdict) (Take BelowFloor)
too_low m config domain bytes verdict id document is read own misses = record {
  vouched = vouched_for m domain verdict id is;
  document = document;
  read = read;
  misses = subst (λ (c : Configuration). MissesFloor c domain document) own misses;
}

-- the voucher of an observation
voucher_of : (m : Meaning) (fetched : FetchedBundle) (r : Receipt) (o : IsObservation m fetched r)
    → IsVoucher m fetched.domain fetched.verdict (id_in fetched.verdict.endpoint.domain o.voucher)
voucher_of m fetched r o = record { voucher = o.voucher; authentic = o.authentic; is = refl }

-- what comes of taking the receipt is what comes of the observation
pub concluded : (old new : HeldAndRoom) (fetched : FetchedBundle) (r : Receipt) (result : Result (Unit {0}) ObserveError)
    → IsMeaning old.meaning → IsConfiguration old.meaning.config → IsReceipt r → IsObservation old.meaning fetched r
    → MatchResult result (λ _. HasKept old r new) (HasNotKept old r new)
    → MatchResult result (λ _. HasObserved old.meaning fetched new.meaning r) (HasNotObserved old fetched new)
concluded old new fetched r (Ok _) valid config form o kept =
    subst (HasObserved old.meaning fetched new.meaning) (sym o.is)
    (observed old new fetched.domain fetched.bytes fetched.verdict (id_in fetched.verdict.endpoint.domain o.voucher) o.document valid
    (subst IsReceipt o.is form) (voucher_of old.meaning fetched r o) o.read o.reaches (subst (λ (x : Receipt). HasKept old x new) o.is kept))
concluded old new fetched r (Err why) valid config form o kept =
    not_kept old new fetched.domain fetched.bytes fetched.verdict (id_in fetched.verdict.endpoint.domain o.voucher) o.document why config
    (voucher_of old.meaning fetched r o) o.read o.reaches (subst (λ (x : Receipt). HasNotKept old x new why) o.is kept)
