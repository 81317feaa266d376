-- What the search finds is a shortest chain.
use Rattle.std.proofs.Common.{append_assoc, append-nil, ◌≡◌, ℕ, ◌+◌, ◌<◌, inl, inr, List, [], ◌∷◌, ◌++◌, length}
use Rattle.std.proofs.Common.{reverse, Option, Some, None, arith, refl, sym, ap, ◌∙◌, subst}
use Rattle.std.specs.Prelude.{Contains, Any, slice_get}
use Rattle.std.specs.List.{AllByRecursion}
use Rattle.std.proofs.lemmas.Bool.{cases_lt}
use Rattle.std.proofs.lemmas.List.{length-reverse, reverse-append, reverse-reverse}
use Rattle.std.proofs.lemmas.Option.{same_Some, slice_get_within}
use Rattle.fed_config.specs.Configuration.{Configuration}
use Rattle.fed_config.specs.declared.seed.Seed.{Seed}
use Rattle.receipt_core.specs.declared.distrust.Distrust.{Distrust}
use Rattle.receipt_core.specs.Receipt.{Receipt, Pair, pair_of, need_of, offers_of}
use Rattle.receipt_core.specs.Acceptance.{IsFitting, Vouches, Leads, Meaning, IsMeaning, IsMember, pair_of_seed}
use Rattle.receipt_core.specs.Chain.{LeadsOn, IsChain}
use Rattle.closure_core.proofs.AlikeFacts.{chain_alike}
use Rattle.receipt_core.proofs.RisingFacts.{each_has, Has-from_contains}
use Rattle.receipt_core.proofs.VouchingFacts.{Vouches-by_offers}
use Rattle.closure_core.specs.Alike.{IsSameTrust}
use Rattle.bundle_view.specs.Explain.{LeadsTo, IsShortest}
use Rattle.bundle_view.specs.Inside.Search.{Stride, IsStride, AreStrides, AreTrusted, AreFollowed, IsSearched, SearchFinds, HasSearched, IsBackFrom}

-- ---- no chain is shorter

module _ (m : Meaning) (waiting : List Receipt) (trusted : AreTrusted m waiting) (strides : List Stride) (p : Pair)
    (place : ℕ) (is : IsSearched m.config.seeds waiting strides p place)
    (limit : ℕ) (early : (i : ℕ) (s : Stride) → slice_get strides i ≡ Some s → s.length < limit → i < place) where
  -- no chain that is shorter than the limit leads to the document from one whose offers were
  -- followed
  not_along : (from : Pair) (d : ℕ) (chain : List Receipt) → AreFollowed waiting strides (offers_of from) (d + 1)
      → AllByRecursion (Contains m.held) chain → Leads m.config m.records from chain p → 0 < length chain
      → d + length chain < limit → ⊥
  not_along from d [] followed held leads some short = omega (arith, some)
  not_along from d (r ∷ []) followed held leads some short =
      let offered = (Vouches-by_offers m.records from r).0 leads.1 in
      let h = followed r ((trusted.exactly r).1 (held.0, offered.1)) offered.0 in
      is.passed h.place h.stride (early h.place h.stride h.at (omega (arith, h.short, short))) h.at (ap pair_of h.is ∙ leads.2)
  not_along from d (r ∷ q ∷ others) followed held leads some short =
      let offered = (Vouches-by_offers m.records from r).0 leads.1 in
      let h = followed r ((trusted.exactly r).1 (held.0, offered.1)) offered.0 in
      let before = early h.place h.stride h.at (omega (arith, h.short, short)) in
      not_along (pair_of r) (d + 1) (q ∷ others)
      (λ x waits has.
      let f = is.followed h.place h.stride before h.at x waits (subst (λ (y : Receipt). Contains (offers_of (pair_of y)) (need_of x)) (sym h.is) has) in
      record { place = f.place; stride = f.stride; at = f.at; is = f.is; short = omega (arith, f.short, h.short) })
      held.1 leads.2 (omega arith) (omega (arith, short))

  -- no chain that is shorter than the limit leads from a configured document to the document
  pub not_shorter : (chain : List Receipt) → LeadsTo m p chain → 0 < length chain → length chain < limit → ⊥
  not_shorter chain way some short =
      not_along (pair_of_seed way.seed) 0 chain (is.started way.seed way.configured) way.held way.leads some
      (omega (arith, short))

-- ---- a chain back

module _ (m : Meaning) (waiting : List Receipt) (valid : IsMeaning m) (trusted : AreTrusted m waiting)
    (strides : List Stride) (stand : AreStrides m.config.seeds waiting strides) (p : Pair) where
  -- the chain leads to the document from the step at the place or, if there is no place, from a
  -- configured document
  abbrev IsLeft : Option ℕ → List Receipt → Type 0
  IsLeft None chain = LeadsTo m p chain
  IsLeft (Some place) chain = (s : Stride) → slice_get strides place ≡ Some s
      → AllByRecursion (Contains m.held) chain × Leads m.config m.records (pair_of s.receipt) chain p

  -- the chain to the step at a place has n receipts, and n is 0 if there is no step
  abbrev length_of : Option ℕ → ℕ → Type 0
  length_of None n = n ≡ 0
  length_of (Some place) n = (s : Stride) → slice_get strides place ≡ Some s → s.length ≡ n

  -- a receipt that may be vouched for and whose need a document offers fits, and that document
  -- vouches for it
  vouched : (from : Pair) (r : Receipt) → Contains waiting r → Contains (offers_of from) (need_of r) → IsFitting m.config r × Vouches m.records from r
  vouched from r waits offered =
      let t = (trusted.exactly r).0 waits in
      (each_has (IsFitting m.config) m.held r valid.fitting (Has-from_contains m.held r t.0), (Vouches-by_offers m.records from r).1 (offered, t.1))

  -- a step's receipt, put in front of a chain that leads on from it, leads on from the step before
  led : (s : Stride) (before : Option ℕ) (chain : List Receipt) → Contains waiting s.receipt
      → IsStride m.config.seeds strides s before → AllByRecursion (Contains m.held) chain
      × Leads m.config m.records (pair_of s.receipt) chain p → IsLeft before (s.receipt ∷ chain)
  led s None chain waits h rest =
      let v = vouched (pair_of_seed h.seed) s.receipt waits h.offers in
      record { seed = h.seed; configured = h.configured; held = (((trusted.exactly s.receipt).0 waits).0, rest.0); leads = (v.0, v.1, rest.1) }
  led s (Some place) chain waits h rest = λ t at.
      let same : h.previous ≡ t = same_Some h.previous t (sym h.at ∙ at) in
      let v = vouched (pair_of h.previous.receipt) s.receipt waits h.offers in (
        (((trusted.exactly s.receipt).0 waits).0, rest.0),
        subst (λ (x : Stride). Leads m.config m.records (pair_of x.receipt) (s.receipt ∷ chain) p) same
            (v.0, v.1, rest.1),
      )

  -- the receipts back from a step, turned round and in front of a chain that leads on from it, lead
  -- to the document
  pub way_back : (at : Option ℕ) (back chain : List Receipt) → IsBackFrom strides at back → IsLeft at chain → LeadsTo m p (reverse back ++ chain)
  way_back None [] chain is left = left
  way_back None (r ∷ back) chain is left = absurd is
  way_back (Some place) [] chain is left = absurd is
  way_back (Some place) (r ∷ back) chain is left =
      let s = is.0 in
      let next : IsLeft s.before (s.receipt ∷ chain) = led s s.before chain (stand.waits place s is.1) (stand.placed place s is.1) (left s is.1) in
      subst (λ xs. LeadsTo m p (xs ++ chain)) (sym (reverse-append (r ∷ []) back))
      (subst (LeadsTo m p) (sym (append_assoc (reverse back) (r ∷ []) chain))
      (way_back s.before back (r ∷ chain) is.3 (subst (λ x. IsLeft s.before (x ∷ chain)) is.2 next)))

  -- the number of receipts that lead back from a step is its chain's length
  pub length_back : (at : Option ℕ) (back : List Receipt) → IsBackFrom strides at back → length_of at (length back)
  length_back None [] is = refl
  length_back None (r ∷ back) is = absurd is
  length_back (Some place) [] is = absurd is
  length_back (Some place) (r ∷ back) is = λ t at.
      let s = is.0 in
      let same : s.length ≡ t.length = ap (λ (x : Stride). x.length) (same_Some s t (sym is.1 ∙ at)) in
      omega (arith, same, longer s s.before (length back) (stand.placed place s is.1) (length_back s.before back is.3))
    where
      longer : (s : Stride) (before : Option ℕ) (n : ℕ) → IsStride m.config.seeds strides s before → length_of before n → s.length ≡ n + 1
      longer s None n h e = omega (arith, e, h.first)
      longer s (Some place) n h e = omega (arith, h.next, e h.previous h.at)

-- ---- what is explained

-- to a configured document the empty chain is a shortest one
pub shortest_seed : (m : Meaning) (p : Pair) → Any (λ s. pair_of_seed s ≡ p) m.config.seeds → IsShortest m p []
shortest_seed m p h = record {
  leads = record { seed = h.1; configured = (h.0, h.2, h.3); held = tt; leads = h.4 };
  shortest = λ other way. omega arith;
}

-- a chain to a document that is not configured has a receipt
some_receipt : (m : Meaning) (p : Pair) → (Any (λ s. pair_of_seed s ≡ p) m.config.seeds → ⊥) → (chain : List Receipt) → LeadsTo m p chain → 0 < length chain
some_receipt m p none [] way = absurd (none (way.configured.0, way.seed, way.configured.1, way.configured.2, way.leads))
some_receipt m p none (r ∷ chain) way = omega arith

module _ (m : Meaning) (waiting : List Receipt) (trusted : AreTrusted m waiting) (strides : List Stride) (p : Pair)
    (unconfigured : Any (λ s. pair_of_seed s ≡ p) m.config.seeds → ⊥) where
  -- a document that the search did not find is not accepted
  pub none_leads : IsSearched m.config.seeds waiting strides p (length strides) → IsMember m p → ⊥
  none_leads is a =
      let way : LeadsTo m p a.chain = record { seed = a.seed; configured = a.configured; held = a.held; leads = a.leads } in
      not_shorter m waiting trusted strides p (length strides) is (length a.chain + 1)
      (λ i s at l. slice_get_within strides i s at) a.chain way (some_receipt m p unconfigured a.chain way)
      (omega arith)

  -- the receipts back from the step that was found are a shortest chain
  pub shortest_found : IsMeaning m → (place : ℕ) (chain : List Receipt)
      → SearchFinds m.config.seeds waiting strides p place → IsBackFrom strides (Some place) (reverse chain)
      → IsShortest m p chain
  shortest_found valid place chain found back =
      let all = way_back m waiting valid trusted strides found.searched.stand p (Some place) (reverse chain) [] back
      (λ s at. (
        tt,
        ap (λ (x : Stride). pair_of x.receipt) (same_Some s found.stride (sym at ∙ found.at))
            ∙ found.is,
      )) in
      let same : reverse (reverse chain) ++ [] ≡ chain = append-nil (reverse (reverse chain)) ∙ reverse-reverse chain in
      let long : found.stride.length ≡ length (reverse chain) =
      length_back m waiting valid trusted strides found.searched.stand p (Some place) (reverse chain) back
      found.stride found.at in
      record {
        leads = subst (LeadsTo m p) same all;
        shortest = λ other way. elim (cases_lt (length other) found.stride.length) [
          | inl less ↦ absurd (not_shorter m waiting trusted strides p place found.searched found.stride.length
              (soon found) other way (some_receipt m p unconfigured other way) less)
          | inr more ↦ omega (arith, more, long, length-reverse chain)
        ];
      }
    where
      soon : (found : SearchFinds m.config.seeds waiting strides p place) (i : ℕ) (s : Stride)
          → slice_get strides i ≡ Some s → s.length < found.stride.length → i < place
      soon found i s at l = elim (cases_lt i place) [
        | inl before ↦ before
        | inr after ↦ let rise = found.searched.rising place i found.stride s after found.at at in absurd (omega (arith, rise, l))
      ]

-- the outcome of a search is that of equal configured documents and receipts
pub searched_moved : (seeds those : List Seed) (waiting there : List Receipt) (strides : List Stride) (p : Pair)
    (o found : Option ℕ) → seeds ≡ those → waiting ≡ there → o ≡ found → HasSearched seeds waiting strides p o
    → HasSearched those there strides p found
searched_moved seeds those waiting there strides p o found e f h is =
    subst (λ x. HasSearched x there strides p found) e (subst (λ x. HasSearched seeds x strides p found) f (subst (HasSearched seeds waiting strides p) h is))

-- ---- a chain to anybody

-- a chain to a document leads on to its end
ends_in : (c : Configuration) (records : List Distrust) (from : Pair) (chain : List Receipt) (to : Pair)
    → Leads c records from chain to → LeadsOn c records from chain
ends_in c records from [] to h = refl
ends_in c records from (r ∷ chain) to h = (h.0, h.1, ends_in c records (pair_of r) chain to h.2)

-- a shortest chain with a receipt is a chain for somebody who holds no store
pub chain_of : (c : Configuration) (m : Meaning) (p : Pair) (chain : List Receipt) → IsSameTrust m.config c → IsShortest m p chain
    → 0 < length chain → IsChain c m.records chain
chain_of c m p chain same is some =
    chain_alike m.config c same m.records chain (record {
      some = some;
      seed = is.leads.seed;
      configured = is.leads.configured;
      leads = ends_in m.config m.records (pair_of_seed is.leads.seed) chain p is.leads.leads;
    })

-- a chain leads to the document of its last receipt
end_of : (c : Configuration) (records : List Distrust) (from : Pair) (front : List Receipt) (last : Receipt) (to : Pair)
    → Leads c records from (front ++ last ∷ []) to → pair_of last ≡ to
end_of c records from [] last to h = h.2
end_of c records from (r ∷ front) last to h = end_of c records (pair_of r) front last to h.2

-- a shortest chain ends with a receipt of the document, as `laws::explanations` says
pub ends : (m : Meaning) (p : Pair) (front : List Receipt) (last : Receipt) → IsShortest m p (front ++ last ∷ []) → pair_of last ≡ p
ends m p front last is = end_of m.config m.records (pair_of_seed is.leads.seed) front last p is.leads.leads

-- a document with a shortest chain is accepted, as `laws::explanations` says
pub accepted : (m : Meaning) (p : Pair) (chain : List Receipt) → IsShortest m p chain → IsMember m p
accepted m p chain is = record { seed = is.leads.seed; configured = is.leads.configured; chain = chain; held = is.leads.held; leads = is.leads.leads }

-- to a configured document the shortest chain is empty, as `laws::explanations` says
pub empty_for_seed : (m : Meaning) (s : Seed) (chain : List Receipt) → Contains m.config.seeds s → IsShortest m (pair_of_seed s) chain → chain ≡ []
empty_for_seed m s [] has is = refl
empty_for_seed m s (r ∷ chain) has is = absurd (let l = is.shortest [] (record { seed = s; configured = has; held = tt; leads = refl }) in omega (arith, l))

-- shortest chains to one document have one length, as `laws::explanations` says
pub one_length : (m : Meaning) (p : Pair) (chain other : List Receipt) → IsShortest m p chain → IsShortest m p other → length chain ≡ length other
one_length m p chain other a b = let l = a.shortest other b.leads in let r = b.shortest chain a.leads in omega (arith, l, r)
