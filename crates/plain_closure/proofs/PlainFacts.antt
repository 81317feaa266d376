-- Rounds lead to what is accepted
use Rattle.std.proofs.Common.{◌≡◌, ℕ, zero, suc, ◌+◌, ◌<◌, ◌⊎◌, inl, inr, Bool, true, false, ◌||◌, List, [], ◌∷◌}
use Rattle.std.proofs.Common.{length, get_or, set, map, Some, arith, refl, sym, ap, ◌∙◌, subst}
use Rattle.std.specs.Prelude.{Contains, slice_get, ◌↔◌}
use Rattle.std.specs.List.{list_any}
use Rattle.std.proofs.lemmas.Bool.{cases_lt, cases_eq, cases_Bool, both_ways}
use Rattle.std.proofs.lemmas.List.{length-map, get_or-set_other}
use Rattle.std.proofs.lemmas.Option.{slice_get_within, same_Some, slice_get-get_or}
use Rattle.receipt_core.specs.declared.distrust.Distrust.{Distrust}
use Rattle.receipt_core.specs.declared.triple.Triple.{Triple}
use Rattle.receipt_core.specs.Receipt.{Receipt, Pair, pair_of, offers_of, need_of}
use Rattle.receipt_core.specs.Acceptance.{Meaning, IsMeaning, IsMember, IsFitting, IsReleased, Vouches, pair_of_seed}
use Rattle.closure_parts.proofs.PlaceFacts.{slice_get-append_cases, slice_get-map_cases, slice_get-Contains, Contains-slice_get}
use Rattle.closure_core.specs.Inside.Nodes.{pairs_of, is_raised, flags_of}
use Rattle.closure_core.specs.Inside.Flags.{ReportsMembers}
use Rattle.closure_parts.specs.Held.{HeldReceipts, meaning_of}
use Rattle.closure_parts.specs.Pairs.{DocumentTableView, HasRaised}
use Rattle.plain_closure.specs.Plain.{AreSeedOffers, IsOfferedBelow, IsOffered, IsVouched, AreSound, AreQuietBelow}
use Rattle.plain_closure.specs.Plain.{AreReleased, IsAcceptedNode, IsFirstAccepted, HasPlainFlags}
use Rattle.closure_parts.proofs.HeldChangeFacts.{pair-of_seed_node, pair-of_receipt_node}
use Rattle.closure_core.proofs.ContainsFacts.{contains_first, contains_later, contains_none, contains_cases}
use Rattle.closure_core.proofs.FlagFacts.{Raises}
use Rattle.closure_core.proofs.NodeFacts.{length-flags}
use Rattle.closure_core.proofs.MemberFacts.{member_least, member_seed, member_released, member_grounds}
use Rattle.closure_parts.proofs.PairFacts.{pairing-once}
use Rattle.closure_core.proofs.RisingFacts.{each_has}
use Rattle.closure_parts.proofs.VouchingFacts.{vouches-from_offer, offer-from_vouches, open-from_vouches}

-- ---- an item is among others

-- If one of two tests passes, the first or the second does.
or_split : (b c : Bool) → (b || c) ≡ true → (b ≡ true) ⊎ (c ≡ true)
or_split true c e = inl refl
or_split false c e = inr e

-- If the first test passes, one of both does.
or_first : (b c : Bool) → b ≡ true → (b || c) ≡ true
or_first true c e = refl
or_first false c e = absurd (both_ways false refl e)

-- If the second test passes, one of both does.
or_second : (b c : Bool) → c ≡ true → (b || c) ≡ true
or_second true c e = refl
or_second false c e = e

module _ {T : Type 0} (test : T → Bool) (t : T) where
  -- If a test that knows the item passes for some item of the list, the list contains it.
  pub any_has : ((x : T) → test x ≡ true → x ≡ t) → (xs : List T) → list_any test xs ≡ true → Contains xs t
  any_has exact [] e = absurd (both_ways false refl e)
  any_has exact (x ∷ xs) e = elim (or_split (test x) (list_any test xs) e) [
    | inl here ↦ subst (Contains (x ∷ xs)) (exact x here) (contains_first x xs)
    | inr later ↦ contains_later x xs t (any_has exact xs later)
  ]

  -- If the list contains the item, the test passes for one.
  pub has_any : test t ≡ true → (xs : List T) → Contains xs t → list_any test xs ≡ true
  has_any self [] has = absurd (contains_none t has)
  has_any self (x ∷ xs) has = elim (contains_cases x xs t has) [
    | inl same ↦ or_first (test x) (list_any test xs) (ap test same ∙ self)
    | inr later ↦ or_second (test x) (list_any test xs) (has_any self xs later)
  ]

-- A place within the list has an item.
pub item_at : {T : Type 0} (xs : List T) (k : ℕ) → k < length xs → (x : T) × (slice_get xs k ≡ Some x)
item_at [] k l = absurd (omega (arith, l))
item_at (x ∷ xs) zero l = (x, refl)
item_at (x ∷ xs) (suc k) l = item_at xs k (omega (arith, l))

-- ---- what is offered by receipts

module _ (arrived : List Receipt) (released : List Bool) (t : Triple) where
  -- Before the first receipt nothing is offered.
  pub offered-none : IsOfferedBelow arrived released t 0 → ⊥
  offered-none o = omega (arith, o.below)

  -- If no receipt before a place offers the triple, and the one there is not raised or does not
  -- offer it, none up to it does.
  pub offered-step : (k : ℕ) (r : Receipt) → slice_get arrived k ≡ Some r
      → (is_raised released k ≡ true → Contains (offers_of (pair_of r)) t → ⊥)
      → (IsOfferedBelow arrived released t k → ⊥) → IsOfferedBelow arrived released t (k + 1) → ⊥
  offered-step k r at not before o = elim (cases_lt o.place k) [
    | inl l ↦ before record { place = o.place; below = l; receipt = o.receipt; at = o.at; raised = o.raised; offers = o.offers }
    | inr l ↦
        let e : o.place ≡ k = omega (arith, l, o.below) in
        let same : o.receipt ≡ r = same_Some o.receipt r (sym o.at ∙ ap (λ n. slice_get arrived n) e ∙ at) in
        not (subst (λ n. is_raised released n ≡ true) e o.raised) (subst (λ (s : Receipt). Contains (offers_of (pair_of s)) t) same o.offers)
  ]

-- ---- rounds

module _ (m : Meaning) (arrived : List Receipt) (seed_offers : List Triple) (offers : AreSeedOffers m.config.seeds seed_offers)
    (same : (r : Receipt) → Contains m.held r ↔ Contains arrived r) (valid : IsMeaning m) where
  -- A receipt that is vouched for in a round is one that an accepted document vouches for.
  pub vouched-released : (released : List Bool) → AreSound m arrived released → (r : Receipt) → Contains arrived r
      → IsVouched m.records seed_offers arrived released r → IsReleased m r
  vouched-released released sound r has v =
      let held : Contains m.held r = (same r).1 has in
      let fits : IsFitting m.config r = each_has (IsFitting m.config) m.held r valid.fitting held in
      elim v.1 [
        | inl seeded ↦
            let s = (offers (need_of r)).0 seeded in
            record {
              held = held;
              fits = fits;
              voucher = pair_of_seed s.0;
              accepted = member_seed m s.0 s.1;
              vouches =
                  vouches-from_offer m.records (pair_of_seed s.0) r s.2 v.0;
            }
        | inr o ↦
            record {
              held = held;
              fits = fits;
              voucher = pair_of o.receipt;
              accepted = member_released m o.receipt (sound o.place o.receipt o.at o.raised);
              vouches = vouches-from_offer m.records (pair_of o.receipt) r o.offers v.0;
            }
      ]

  -- If a round finds none, the flags are exactly those of the receipts that an accepted document
  -- vouches for.
  pub quiet-released : (released : List Bool) → AreSound m arrived released
      → AreQuietBelow m.records seed_offers arrived released (length arrived) → AreReleased m arrived released
  quiet-released released sound quiet place r at = (
    sound place r at,
    λ is. elim (cases_Bool (is_raised released place)) [
      | inl on ↦ on
      | inr off ↦ absurd (quiet place r (slice_get_within arrived place r at) at off (
        open-from_vouches m.records is.voucher r is.vouches,
        all_offered is.voucher is.accepted (need_of r) (offer-from_vouches m.records is.voucher r is.vouches),
      ))
    ],
  )
    where
      step : (p : Pair) (s : Receipt)
          → ((t : Triple) → Contains (offers_of p) t → IsOffered seed_offers arrived released t) → Contains m.held s
          → IsFitting m.config s → Vouches m.records p s → (t : Triple) → Contains (offers_of (pair_of s)) t
          → IsOffered seed_offers arrived released t
      step p s h held fits vouches t c =
          let k = Contains-slice_get arrived s ((same s).0 held) in
          elim (cases_Bool (is_raised released k.0)) [
            | inl on ↦ inr record { place = k.0; below = slice_get_within arrived k.0 s k.1; receipt = s; at = k.1; raised = on; offers = c }
            | inr off ↦ absurd (quiet k.0 s (slice_get_within arrived k.0 s k.1) k.1 off
                (open-from_vouches m.records p s vouches, h (need_of s) (offer-from_vouches m.records p s vouches)))
          ]

      all_offered : (p : Pair) → IsMember m p → (t : Triple) → Contains (offers_of p) t → IsOffered seed_offers arrived released t
      all_offered p is = member_least m (λ (q : Pair). (t : Triple) → Contains (offers_of q) t → IsOffered seed_offers arrived released t)
          record { seeds = λ s has t c. inl ((offers t).1 (s, has, c)); steps = step } p is

-- To raise the flag of a receipt that an accepted document vouches for raises none wrongly.
pub sound-more : (m : Meaning) (arrived : List Receipt) (released : List Bool) (place : ℕ) (r : Receipt)
    → place < length released → slice_get arrived place ≡ Some r → IsReleased m r → AreSound m arrived released
    → AreSound m arrived (set released place true)
sound-more m arrived released place r below at is sound k s there raised = elim (cases_eq k place) [
  | inl e ↦ subst (IsReleased m) (same_Some r s (sym at ∙ ap (λ n. slice_get arrived n) (sym e) ∙ there)) is
  | inr other ↦ sound k s there (sym (get_or-set_other released place k true false other) ∙ raised)
]

-- A round is still quiet past a receipt whose flag is raised or that nothing vouches for.
pub quiet-more : (records : List Distrust) (seed_offers : List Triple) (arrived : List Receipt) (released : List Bool)
    (k : ℕ) (r : Receipt) → slice_get arrived k ≡ Some r
    → (is_raised released k ≡ false → IsVouched records seed_offers arrived released r → ⊥)
    → AreQuietBelow records seed_offers arrived released k → AreQuietBelow records seed_offers arrived released (k + 1)
quiet-more records seed_offers arrived released k r at not quiet place s below there off v = elim (cases_lt place k) [
  | inl l ↦ quiet place s l there off v
  | inr l ↦
      let e : place ≡ k = omega (arith, l, below) in
      let same : s ≡ r = same_Some s r (sym there ∙ ap (λ n. slice_get arrived n) e ∙ at) in
      not (subst (λ n. is_raised released n ≡ false) e off) (subst (IsVouched records seed_offers arrived released) same v)
]

-- ---- flags of documents

-- Before the first node nothing is accepted.
pub first-none : (seeds : ℕ) (released : List Bool) (heads : List ℕ) (number : ℕ) → IsFirstAccepted seeds released heads 0 number → ⊥
first-none seeds released heads number f = omega (arith, f.below)

module _ (seeds : ℕ) (released : List Bool) (heads : List ℕ) (k : ℕ) where
  -- What was accepted before a node is so after it.
  pub first-later : (number : ℕ) → IsFirstAccepted seeds released heads k number → IsFirstAccepted seeds released heads (k + 1) number
  first-later number f = record { node = f.node; below = omega (arith, f.below); had = f.had; first = f.first }

  -- A node that is not accepted adds nothing.
  pub first-skip : (IsAcceptedNode seeds released k → ⊥) → (number : ℕ)
      → IsFirstAccepted seeds released heads (k + 1) number → IsFirstAccepted seeds released heads k number
  first-skip not number f = elim (cases_lt f.node k) [
    | inl l ↦ record { node = f.node; below = l; had = f.had; first = f.first }
    | inr l ↦ let e : f.node ≡ k = omega (arith, l, f.below) in absurd (not (subst (IsAcceptedNode seeds released) e f.had))
  ]

  -- An accepted node raises the flag of its document.
  pub first-more : (nodes : List ℕ) → nodes ≡ k ∷ [] → IsAcceptedNode seeds released k → (old new : List Bool) → Raises heads nodes old new
      → ((number : ℕ) → (is_raised old number ≡ true) ↔ IsFirstAccepted seeds released heads k number)
      → (number : ℕ) → (is_raised new number ≡ true) ↔ IsFirstAccepted seeds released heads (k + 1) number
  first-more nodes is had old new raises before number = (
    λ e. elim ((raises.each number).0 e) [
      | inl a ↦ first-later number ((before number).0 a)
      | inr f ↦
          let at : f.0 ≡ k = only f.0 (subst (λ ns. Contains ns f.0) is f.1) in
          record { node = k; below = omega arith; had = had; first = subst (λ n. slice_get heads n ≡ Some number) at f.2 }
    ],
    λ f. (raises.each number).1 (elim (cases_lt f.node k) [
      | inl l ↦ inl ((before number).1 record { node = f.node; below = l; had = f.had; first = f.first })
      | inr l ↦
          let e : f.node ≡ k = omega (arith, l, f.below) in
          inr (k, subst (λ ns. Contains ns k) (sym is) (contains_first k []), subst (λ n. slice_get heads n ≡ Some number) e f.first)
    ]),
  )
    where
      only : (n : ℕ) → Contains (k ∷ []) n → n ≡ k
      only n c = elim (contains_cases k [] n c) [ inl e ↦ sym e | inr none ↦ absurd (contains_none n none) ]

module _ (h : HeldReceipts) (p : DocumentTableView) (seed_offers : List Triple) (released : List Bool) (i : HasPlainFlags h p seed_offers released) where
  -- The document of an accepted node is accepted.
  had-member : (node : ℕ) (q : Pair) → IsAcceptedNode (length h.config.seeds) released node
      → slice_get (pairs_of h.config.seeds h.arrived) node ≡ Some q → IsMember (meaning_of h) q
  had-member node q had at = elim (slice_get-append_cases (map pair_of_seed h.config.seeds) (map pair_of h.arrived) node q at) [
    | inl a ↦
        let s = slice_get-map_cases pair_of_seed h.config.seeds node q a in
        subst (IsMember (meaning_of h)) s.2 (member_seed (meaning_of h) s.0 (slice_get-Contains h.config.seeds node s.0 s.1))
    | inr a ↦
        let r = slice_get-map_cases pair_of h.arrived a.place q a.at in
        elim had [
          | inl l ↦ absurd (omega (arith, l, a.is, length-map h.config.seeds pair_of_seed))
          | inr f ↦
              let e : f.0 ≡ a.place = omega (arith, f.1, a.is, length-map h.config.seeds pair_of_seed) in
              let raised : is_raised released a.place ≡ true = subst (λ n. is_raised released n ≡ true) e f.2 in
              subst (IsMember (meaning_of h)) r.2 (member_released (meaning_of h) r.0 ((i.settled a.place r.0 r.1).0 raised))
        ]
  ]

  -- the accepted document has a node
  pub record IsAt (q : Pair) : Type 0 where
    pub node : ℕ
    pub had : IsAcceptedNode (length h.config.seeds) released node
    pub at : slice_get (pairs_of h.config.seeds h.arrived) node ≡ Some q

  -- An accepted document has an accepted node.
  member-had : (q : Pair) → IsMember (meaning_of h) q → IsAt q
  member-had q is = elim (member_grounds (meaning_of h) q is) [
    | inl s ↦
        let k = Contains-slice_get h.config.seeds s.seed s.configured in
        record {
          node = k.0;
          had = inl (slice_get_within h.config.seeds k.0 s.seed k.1);
          at = pair-of_seed_node h.config.seeds h.arrived k.0 s.seed k.1 ∙ ap (λ (x : Pair). Some x) s.is;
        }
    | inr r ↦
        let k = Contains-slice_get h.arrived r.receipt ((i.set.same r.receipt).0 r.released.held) in
        record {
          node = length h.config.seeds + k.0;
          had = inr (k.0, refl, (i.settled k.0 r.receipt k.1).1 r.released);
          at = pair-of_receipt_node h.config.seeds h.arrived k.0 r.receipt k.1 ∙ ap (λ (x : Pair). Some x) r.is;
        }
  ]

  -- The flags of the documents say what is accepted.
  pub plain-reports : ReportsMembers (meaning_of h) (pairs_of h.config.seeds h.arrived) p.numbers
      (flags_of p.counts)
  plain-reports = record {
    size = length-flags p.counts ∙ i.set.pairing.counted;
    sound = λ n q e at. let f = (i.flags n).0 e in had-member f.node q f.had (sym (i.set.pairing.first f.node n f.first).1 ∙ at);
    listed = λ n e. let f = (i.flags n).0 e in (i.set.pairing.first f.node n f.first).0;
    all = λ q a.
        let r = member-had q a in
        let l : r.node < length p.heads = omega (arith, slice_get_within (pairs_of h.config.seeds h.arrived) r.node q r.at, i.set.pairing.sizes) in
        let at = slice_get-get_or p.heads r.node 0 l in
        let f = i.set.pairing.first r.node (get_or p.heads r.node 0) at in
        (get_or p.heads r.node 0, (i.flags (get_or p.heads r.node 0)).1 record { node = r.node; below = l; had = r.had; first = at }, f.1 ∙ r.at);
    once = λ one other q. pairing-once (pairs_of h.config.seeds h.arrived) p i.set.pairing one other q;
  }

  -- A pair's flag is raised exactly if its document is accepted.
  pub plain-member : (q : Pair) → HasRaised (pairs_of h.config.seeds h.arrived) p q ↔ IsMember (meaning_of h) q
  plain-member q = (
    λ r. plain-reports.sound r.number q r.raised r.at,
    λ a. let f = plain-reports.all q a in record { number = f.0; has = plain-reports.listed f.0 f.1; at = f.2; raised = f.1 },
  )
