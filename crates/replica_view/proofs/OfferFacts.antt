-- What accepted documents offer, domain by domain, and the status of a receipt by that
use Rattle.std.proofs.Common.{◌≡◌, inl, inr, ℕ, ◌+◌, ◌<◌, List, [], ◌∷◌, ◌++◌, flat_map, true, false, sym, ap, ◌∙◌, subst}
use Rattle.std.proofs.Common.{length, get_or, take, add-one}
use Rattle.std.proofs.Math.Seq.{take-suc}
use Rattle.std.specs.Prelude.{Contains}
use Rattle.std.specs.BTreeSet.{BTreeSet, IsFromIterResult, contains}
use Rattle.std.proofs.lemmas.List.Elements.{Contains-append_left, Contains-append_right, Contains-append_cases, Contains-push_cases}
use Rattle.std.proofs.lemmas.Map.Views.{btree_set_contains_from_list}
use Rattle.std.proofs.lemmas.Bool.{both_ways}
use Rattle.bundle_doc.specs.Bundle.{Bundle}
use Rattle.fed_config.specs.Configuration.{AreDomains, Configuration, HasDomain}
use Rattle.receipt_core.specs.Acceptance.{IsFitting, IsMeaning, IsMember, IsPending, IsReleased, Meaning, distrust_of}
use Rattle.receipt_core.specs.Order.{triple_total}
use Rattle.receipt_core.specs.Receipt.{Receipt, need_of, offers_of, triple_cmp}
use Rattle.receipt_core.specs.declared.triple.Triple.{Triple}
use Rattle.receipt_core.proofs.LineFacts.{one_triple}
use Rattle.receipt_core.proofs.RisingFacts.{Has-from_contains, each_has}
use Rattle.receipt_core.proofs.VouchingFacts.{Vouches-by_offers}
use Rattle.closure_core.specs.AcceptedList.{document_of}
use Rattle.closure_core.proofs.ContainsFacts.{contains_cases, contains_first, contains_later, contains_none}
use Rattle.replica_view.specs.Inside.Offered.{AddsOffersOf, AreAllOffers, AreOffersFrom, IsOfferSet}

-- ---- what a function makes of each item

-- Each of what is made of the items is made of one of them.
made_of : {X Y : Type 0} (f : X → List Y) (xs : List X) (y : Y) → Contains (flat_map f xs) y → (x : X) × Contains xs x × Contains (f x) y
made_of f [] y has = absurd (contains_none y has)
made_of f (x ∷ xs) y has = elim (Contains-append_cases (f x) (flat_map f xs) y has) [
  | inl here ↦ (x, contains_first x xs, here)
  | inr later ↦ let found = made_of f xs y later in (found.0, contains_later x xs found.0 found.1, found.2)
]

-- What is made of one item is among what is made of all.
made_by : {X Y : Type 0} (f : X → List Y) (xs : List X) (x : X) (y : Y) → Contains xs x → Contains (f x) y → Contains (flat_map f xs) y
made_by f [] x y has is = absurd (contains_none x has)
made_by f (z ∷ xs) x y has is = elim (contains_cases z xs x has) [
  | inl e ↦ Contains-append_left (f z) (flat_map f xs) y (subst (λ w. Contains (f w) y) (sym e) is)
  | inr later ↦ Contains-append_right (f z) (flat_map f xs) y (made_by f xs x y later is)
]

-- one item more is taken
pub taken_domain : {X : Type 0} (xs : List X) (k : ℕ) (x : X) → k < length xs → x ≡ get_or xs k x → take (k + 1) xs ≡ take k xs ++ x ∷ []
taken_domain xs k x low is = ap (λ n. take n xs) (add-one k) ∙ take-suc xs k x low ∙ ap (λ z. take k xs ++ z ∷ []) (sym is)

-- ---- domain by domain

abbrev offers_in : List ℕ → Bundle → List Triple
offers_in domain d = offers_of (document_of domain d)

-- before the first domain there are no offers
pub offers_none : (m : Meaning) (offers : List Triple) → offers ≡ [] → AreOffersFrom m [] offers
offers_none m offers e = record {
  sound = λ t has. absurd (contains_none t (subst (λ ts. Contains ts t) e has));
  complete = λ p t has is offered. absurd (contains_none p.domain has);
}

-- what one more domain's documents offer was added
pub offers_more : (m : Meaning) (domains : List (List ℕ)) (domain : List ℕ) (old new : List Triple)
    → AreOffersFrom m domains old → AddsOffersOf m domain old new → AreOffersFrom m (domains ++ domain ∷ []) new
offers_more m domains domain old new from adds = record {
  sound = λ t has. elim (Contains-append_cases old (flat_map (offers_in domain) adds.documents) t (subst (λ ts. Contains ts t) adds.now has)) [
    | inl before ↦ from.sound t before
    | inr more ↦ let found = made_of (offers_in domain) adds.documents t more in
        record { offerer = document_of domain found.0; accepted = adds.are.sound found.0 found.1; offers = found.2 }
  ];
  complete = λ p t has is offered. subst (λ ts. Contains ts t) (sym adds.now) (elim (Contains-push_cases domains domain p.domain has) [
    | inl before ↦ Contains-append_left old (flat_map (offers_in domain) adds.documents) t (from.complete p t before is offered)
    | inr e ↦ Contains-append_right old (flat_map (offers_in domain) adds.documents) t
        (made_by (offers_in domain) adds.documents p.document t
        (adds.are.complete p.document (subst (λ d. IsMember m (document_of d p.document)) (sym e) is))
        (subst (λ d. Contains (offers_of (document_of d p.document)) t) (sym e) offered))
  ]);
}

-- after the last domain these are all offers
pub offers_all : (m : Meaning) (domains : List (List ℕ)) (offers : List Triple) → AreDomains m.config domains
    → AreOffersFrom m domains offers → AreAllOffers m offers
offers_all m domains offers are from = record {
  sound = from.sound;
  complete = λ p t has is offered. from.complete p t (are.complete p.domain has) is offered;
}

-- the set of these
pub offers_set : (m : Meaning) (offers : List Triple) (set : BTreeSet Triple) → AreAllOffers m offers
    → IsFromIterResult triple_cmp offers set → IsOfferSet m set
offers_set m offers set are made = record {
  offers = offers;
  are = are;
  exactly = btree_set_contains_from_list triple_total one_triple offers set made;
}

-- ---- the status of a receipt

-- the domain of a fitting receipt's endpoint is one of the configuration
endpoint_domain : (c : Configuration) (r : Receipt) → IsFitting c r → HasDomain c r.endpoint.domain
endpoint_domain c r fits = inr (inl (fits.relationship, fits.has, ap (λ e. e.domain) fits.endpoint))

module _ (m : Meaning) (offered : BTreeSet Triple) (r : Receipt) (valid : IsMeaning m) (set : IsOfferSet m offered) (held : Contains m.held r) where
  fits : IsFitting m.config r
  fits = each_has (IsFitting m.config) m.held r valid.fitting (Has-from_contains m.held r held)

  -- an accepted document vouches for it, if one offers what it needs and its key is not distrusted
  pub is_vouched : (Contains m.records (distrust_of r.endpoint.domain r) → ⊥) → contains triple_cmp offered (need_of r) ≡ true → IsReleased m r
  is_vouched trusted stated =
      let by = set.are.sound (need_of r) ((set.exactly (need_of r)).0 stated) in
      record {
        held = held;
        fits = fits;
        voucher = by.offerer;
        accepted = by.accepted;
        vouches = (Vouches-by_offers m.records by.offerer r).1 (by.offers, trusted);
      }

  -- and none does, if none offers that
  pub is_unvouched : contains triple_cmp offered (need_of r) ≡ false → IsPending m r
  is_unvouched stated = record {
    held = held;
    unreleased = λ is.
        let offers = (Vouches-by_offers m.records is.voucher r).0 is.vouches in
        let has : HasDomain m.config is.voucher.domain = subst (HasDomain m.config) (sym is.vouches.endpoint) (endpoint_domain m.config r fits) in
        both_ways (contains triple_cmp offered (need_of r)) stated
        ((set.exactly (need_of r)).1 (set.are.complete is.voucher (need_of r) has is.accepted offers.0));
  }
