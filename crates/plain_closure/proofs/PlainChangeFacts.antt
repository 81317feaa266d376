-- What a plain closure keeps, when receipts or records of distrust come
use Rattle.std.proofs.Common.{◌≡◌, ◌≢◌, ℕ, ◌+◌, ◌^◌, ◌<◌, ◌≤◌, inl, inr, Bool, true, false, List, [], ◌∷◌, ◌++◌, length}
use Rattle.std.proofs.Common.{get_or, map, Some, arith, refl, sym, ap, ◌∙◌, subst}
use Rattle.std.specs.Prelude.{Contains, slice_get, ◌↔◌}
use Rattle.std.specs.List.{All}
use Rattle.std.proofs.lemmas.Bool.{cases_lt, both_ways}
use Rattle.std.proofs.lemmas.List.{length-append, length-map, length_push, get_or_past, get_or_append_left, get_or_push}
use Rattle.std.proofs.lemmas.List.Quantifiers.{all_pairs_push}
use Rattle.std.proofs.lemmas.List.Elements.{Contains-append_left, Contains-get_or, All-contains}
use Rattle.std.proofs.lemmas.Option.{slice_get_within, slice_get-get_or}
use Rattle.fed_config.specs.Configuration.{Configuration, IsConfiguration}
use Rattle.receipt_core.specs.declared.distrust.Distrust.{Distrust}
use Rattle.receipt_core.specs.declared.triple.Triple.{Triple}
use Rattle.receipt_core.specs.Receipt.{Receipt, Pair, pair_of, IsReceipt}
use Rattle.receipt_core.specs.Acceptance.{IsMeaning, IsReleased, pair_of_seed}
use Rattle.receipt_core.proofs.LimitFacts.{receipt_limit-most}
use Rattle.closure_parts.proofs.PlaceFacts.{slice_get-left, slice_get-append_cases, slice_get-map_cases}
use Rattle.closure_parts.proofs.PlaceFacts.{slice_get-push_cases}
use Rattle.closure_core.specs.Inside.Nodes.{pairs_of, is_raised, flags_of}
use Rattle.closure_core.specs.Changes.{IsGain}
use Rattle.closure_core.specs.Inside.Flags.{raised_count}
use Rattle.closure_parts.specs.Held.{HeldReceipts, meaning_of}
use Rattle.closure_parts.specs.Held.{IsBefore}
use Rattle.closure_parts.specs.Pairs.{DocumentTableView, IsDocumentTable, no_documents}
use Rattle.plain_closure.specs.Plain.{AreSound, AreReleased, IsAcceptedNode, IsFirstAccepted, IsSet, HasPlainFlags, IsRoomierTable}
use Rattle.closure_parts.proofs.HeldChangeFacts.{pair-of_receipt_node}
use Rattle.closure_core.proofs.FlagFacts.{gain-from_flags, count-fewer}
use Rattle.closure_parts.proofs.PairFacts.{pairing-counts}
use Rattle.closure_parts.proofs.HeldChangeFacts.{same-more, pairs-push, with_arrival, hoard-before, with_mistrust, distrust-sets, always-all}
use Rattle.closure_core.proofs.NodeFacts.{length-flags}
use Rattle.closure_core.proofs.MemberFacts.{released_more}
use Rattle.closure_core.proofs.AlikeFacts.{same_of_equal}
use Rattle.plain_closure.proofs.PlainFacts.{item_at, plain-reports}

-- A flag that is raised is one of those that there are.
raised-within : (flags : List Bool) (k : ℕ) → is_raised flags k ≡ true → k < length flags
raised-within flags k e = elim (cases_lt k (length flags)) [ inl l ↦ l | inr l ↦ absurd (both_ways (is_raised flags k) (get_or_past flags k false l) e) ]

-- ---- from one closure to another

module _ (h new : HeldReceipts) (p q : DocumentTableView) (offers : List Triple) (released others : List Bool) (config : h.config ≡ new.config)
    (arrivals : (place : ℕ) (r : Receipt) → slice_get h.arrived place ≡ Some r → slice_get new.arrived place ≡ Some r)
    (release : (r : Receipt) → IsReleased (meaning_of h) r → IsReleased (meaning_of new) r)
    (i : HasPlainFlags h p offers released) (j : HasPlainFlags new q offers others)
    (heads : (node number : ℕ) → slice_get p.heads node ≡ Some number → slice_get q.heads node ≡ Some number)
    (sizes : length p.counts ≤ length q.counts) where
  -- An accepted node is still accepted.
  had-carry : (node : ℕ) → IsAcceptedNode (length h.config.seeds) released node → IsAcceptedNode (length new.config.seeds) others node
  had-carry node had = elim had [
    | inl l ↦ inl (subst (λ (c : Configuration). node < length c.seeds) config l)
    | inr f ↦
        let l : f.0 < length h.arrived = omega (arith, raised-within released f.0 f.2, i.set.size) in
        let r = item_at h.arrived f.0 l in
        inr (
          f.0,
          subst (λ (c : Configuration). node ≡ length c.seeds + f.0) config f.1,
          (j.settled f.0 r.0 (arrivals f.0 r.0 r.1)).1 (release r.0 ((i.settled f.0 r.0 r.1).0 f.2)),
        )
  ]

  -- A raised flag is still raised.
  kept-carry : (k : ℕ) → is_raised (flags_of p.counts) k ≡ true
      → is_raised (flags_of q.counts) k ≡ true
  kept-carry k e =
      let f = (i.flags k).0 e in
      let at = heads f.node k f.first in
      (j.flags k).1 record { node = f.node; below = slice_get_within q.heads f.node k at; had = had-carry f.node f.had; first = at }

  -- A number keeps its pair.
  pairs-carry : (n : ℕ) (x : Pair) → slice_get (pairs_of h.config.seeds h.arrived) n ≡ Some x → slice_get (pairs_of new.config.seeds new.arrived) n ≡ Some x
  pairs-carry n x at = elim (slice_get-append_cases (map pair_of_seed h.config.seeds) (map pair_of h.arrived) n x at) [
    | inl a ↦ subst (λ (c : Configuration). slice_get (pairs_of c.seeds new.arrived) n ≡ Some x) config
        (slice_get-left (map pair_of_seed h.config.seeds) (map pair_of new.arrived) n x a)
    | inr a ↦
        let r = slice_get-map_cases pair_of h.arrived a.place x a.at in
        let e : n ≡ length h.config.seeds + a.place = omega (arith, a.is, length-map h.config.seeds pair_of_seed) in
        subst (λ (c : Configuration). slice_get (pairs_of c.seeds new.arrived) n ≡ Some x) config
        (ap (λ k. slice_get (pairs_of h.config.seeds new.arrived) k) e
        ∙ pair-of_receipt_node h.config.seeds new.arrived a.place r.0 (arrivals a.place r.0 r.1)
        ∙ ap (λ (y : Pair). Some y) r.2)
  ]

  -- There are no fewer flags.
  flag-sizes : length (flags_of p.counts) ≤ length (flags_of q.counts)
  flag-sizes = omega (arith, sizes, length-flags p.counts, length-flags q.counts)

  -- No fewer flags are raised, so the difference does not underflow.
  pub few-carry : raised_count (flags_of p.counts) ≤ raised_count (flags_of q.counts)
  few-carry = count-fewer (flags_of p.counts) (flags_of q.counts) flag-sizes kept-carry

  -- The rise of the number of raised flags is what is accepted in addition.
  pub gain-carry : (n : ℕ) → raised_count (flags_of q.counts) ≡ raised_count (flags_of p.counts) + n
      → IsGain (meaning_of h) (meaning_of new) n
  gain-carry n count =
      gain-from_flags no_documents (meaning_of h) (meaning_of new) (pairs_of h.config.seeds h.arrived)
      (pairs_of new.config.seeds new.arrived) p.numbers q.numbers (flags_of p.counts)
      (flags_of q.counts)
      (plain-reports h p offers released i) (plain-reports new q offers others j) kept-carry
      (λ k x e f at. pairs-carry k x at) n count flag-sizes

-- ---- flags raised again

-- Flags that are computed again for the receipts and for the documents settle the closure.
pub settled-from : (h : HeldReceipts) (p q : DocumentTableView) (offers : List Triple) (old released : List Bool) → IsSet h p offers old
    → length released ≡ length old → AreReleased (meaning_of h) h.arrived released
    → q.numbers ≡ p.numbers → q.heads ≡ p.heads → length q.counts ≡ length p.counts
    → ((number : ℕ) → (is_raised (flags_of q.counts) number ≡ true) ↔ IsFirstAccepted
    (length h.config.seeds) released p.heads (length p.heads) number)
    → HasPlainFlags h q offers released
settled-from h p q offers old released s size are numbers heads flags raised = record {
  set = record {
    valid = s.valid;
    once = s.once;
    same = s.same;
    offers = s.offers;
    pairing = pairing-counts (pairs_of h.config.seeds h.arrived) p q s.pairing numbers heads flags;
    size = size ∙ s.size;
  };
  settled = are;
  flags = λ n. subst (λ (fs : List ℕ). (is_raised (flags_of q.counts) n ≡ true) ↔ IsFirstAccepted
      (length h.config.seeds) released fs (length fs) n) (sym heads) (raised n);
}

-- Each node's first number has a count.
pub heads-within : (h : HeldReceipts) (p : DocumentTableView) (offers : List Triple) (released : List Bool)
    → IsSet h p offers released → All (λ f. f < length p.counts) p.heads
heads-within h p offers released s k d l =
    let f = s.pairing.first k (get_or p.heads k d) (slice_get-get_or p.heads k d l) in
    omega (
      arith,
      All-contains (λ n. n < length (pairs_of h.config.seeds h.arrived)) p.numbers
          (get_or p.heads k d) s.pairing.within f.0,
      s.pairing.counted,
    )

-- ---- one more receipt

-- What is kept apart from the flags is right after one more receipt.
pub set-more : (h new : HeldReceipts) (p q : DocumentTableView) (offers : List Triple) (released : List Bool) (r : Receipt)
    → IsSet h p offers released → IsReceipt r → (Contains h.held r → ⊥) → new ≡ with_arrival h r
    → IsMeaning (meaning_of new)
    → IsDocumentTable (pairs_of h.config.seeds h.arrived ++ pair_of r ∷ []) q → IsSet new q offers (released ++ false ∷ [])
set-more h new p q offers released r s form unheld is valid pairing =
    let valid' : IsMeaning (meaning_of (with_arrival h r)) = subst (λ x. IsMeaning (meaning_of x)) is valid in
    subst (λ x. IsSet x q offers (released ++ false ∷ [])) (sym is) (record {
      valid = valid';
      once = all_pairs_push ◌≢◌ h.arrived r s.once
          (λ k d l e. unheld (subst (Contains h.held) e
          ((s.same (get_or h.arrived k d)).1 (Contains-get_or h.arrived k d l))));
      same = same-more h r s.valid form s.same;
      offers = s.offers;
      pairing = subst (λ ps. IsDocumentTable ps q) (sym (pairs-push h.config.seeds h.arrived r)) pairing;
      size = omega (arith, length_push released false, length_push h.arrived r, s.size);
    })

-- With one more receipt what was released is still released.
pub release-more : (h new : HeldReceipts) (r : Receipt) → IsMeaning (meaning_of h) → IsReceipt r
    → ((s : Receipt) → Contains h.held s ↔ Contains h.arrived s) → new ≡ with_arrival h r → (s : Receipt)
    → IsReleased (meaning_of h) s → IsReleased (meaning_of new) s
release-more h new r valid form same is s released =
    subst (λ (x : HeldReceipts). IsReleased (meaning_of x) s) (sym is)
    (released_more (meaning_of h) (meaning_of (with_arrival h r)) (same_of_equal h.config h.config refl)
    (λ t c. (same-more h r valid form same t).1 (Contains-append_left h.arrived (r ∷ []) t ((same t).0 c)))
    (λ x c. c) s released)

-- With one more receipt the earlier ones keep their places.
pub arrivals-more : (h new : HeldReceipts) (r : Receipt) → new ≡ with_arrival h r → (place : ℕ) (s : Receipt)
    → slice_get h.arrived place ≡ Some s → slice_get new.arrived place ≡ Some s
arrivals-more h new r is place s at = ap (λ (x : HeldReceipts). slice_get x.arrived place) is ∙ slice_get-left h.arrived (r ∷ []) place s at

-- The flags, with a lowered one for the new receipt, raise no receipt wrongly.
pub sound-push : (h new : HeldReceipts) (p : DocumentTableView) (offers : List Triple) (released : List Bool) (r : Receipt)
    → HasPlainFlags h p offers released → IsReceipt r → new ≡ with_arrival h r
    → AreSound (meaning_of new) new.arrived (released ++ false ∷ [])
sound-push h new p offers released r i form is place s at raised =
    elim (slice_get-push_cases h.arrived r place s (ap (λ (x : HeldReceipts). slice_get x.arrived place) (sym is) ∙ at)) [
      | inl a ↦ release-more h new r i.set.valid form i.set.same is s
          ((i.settled place s a.1).0
          (sym (get_or_append_left released (false ∷ []) false place (omega (arith, a.0, i.set.size))) ∙ raised))
      | inr a ↦ absurd (both_ways (is_raised (released ++ false ∷ []) place) (get_or_push released false false place (omega (arith, a.0, i.set.size))) raised)
    ]

-- ---- one more record of distrust

-- What is kept apart from the flags is right after more records of distrust.
pub set-closed : (old new : HeldReceipts) (xs : List Distrust) (p : DocumentTableView) (offers : List Triple)
    (released lowered : List Bool) → IsSet old p offers released → IsBefore old xs new
    → IsMeaning (meaning_of new) → length lowered ≡ length released → IsSet new p offers lowered
set-closed old new xs p offers released lowered s before valid size =
    let is = hoard-before old new xs before in
    let valid' : IsMeaning (meaning_of (with_mistrust old xs new.capacity)) = subst
    (λ h. IsMeaning (meaning_of h)) is valid in
    subst (λ h. IsSet h p offers lowered) (sym is)
    (record {
      valid = valid';
      once = s.once;
      same = s.same;
      offers = s.offers;
      pairing = s.pairing;
      size =
          size ∙ s.size;
    })

-- What is released with more records of distrust was released before.
pub release-fewer : (old new : HeldReceipts) (xs : List Distrust) → IsBefore old xs new → (s : Receipt)
    → IsReleased (meaning_of new) s → IsReleased (meaning_of old) s
release-fewer old new xs before s released =
    released_more (meaning_of new) (meaning_of old) (same_of_equal new.config old.config before.config)
    (λ t c. subst (λ (ts : List Receipt). Contains ts t) before.held c)
    (λ y c. subst (λ (ys : List Distrust). Contains ys y) (sym before.records)
    ((distrust-sets.all_members xs old.records y (always-all xs) (always-all old.records)).1
    (inr c))) s released

-- ---- more room

-- More room changes nothing else.
pub settled-roomier : (h new : HeldReceipts) (p q : DocumentTableView) (offers : List Triple) (released : List Bool)
    → HasPlainFlags h p offers released → new ≡ record h { capacity = new.capacity } → IsRoomierTable p q
    → HasPlainFlags new q offers released
settled-roomier h new p q offers released i is r =
    subst (λ x. HasPlainFlags x q offers released) (sym is) (record {
      set = record {
        valid = i.set.valid;
        once = i.set.once;
        same = i.set.same;
        offers = i.set.offers;
        pairing = pairing-counts (pairs_of h.config.seeds h.arrived) p q i.set.pairing r.numbers
            r.heads (ap length r.counts);
        size = i.set.size;
      };
      settled = i.settled;
      flags = λ n.
          subst (λ fs. (is_raised (flags_of q.counts) n ≡ true) ↔ IsFirstAccepted (length h.config.seeds)
          released fs (length fs) n) (sym r.heads)
          (subst (λ ks. (is_raised (flags_of ks) n ≡ true) ↔ IsFirstAccepted (length h.config.seeds)
          released p.heads (length p.heads) n) (sym r.counts) (i.flags n));
    })

-- ---- what is gained and lost

-- Each node's first number has a count, also if these are replaced by the same number of others.
pub heads-lowered : (h : HeldReceipts) (p low : DocumentTableView) (offers : List Triple) (released : List Bool)
    → IsSet h p offers released → low.heads ≡ p.heads → length low.counts ≡ length p.counts
    → All (λ f. f < length low.counts) low.heads
heads-lowered h p low offers released s heads flags =
    subst (λ (fs : List ℕ). All (λ f. f < length low.counts) fs) (sym heads)
    (subst (λ (n : ℕ). All (λ f. f < n) p.heads) (sym flags)
    (heads-within h p offers released s))

-- The number of nodes fits 32 bits.
pub heads-few : (h : HeldReceipts) (p low : DocumentTableView) (offers : List Triple) (released : List Bool)
    → IsSet h p offers released → IsConfiguration h.config → length h.arrived ≡ length h.held → low.heads ≡ p.heads
    → length low.heads < 2 ^ 32
heads-few h p low offers released s form size heads =
    omega (
      arith,
      ap length heads,
      s.pairing.sizes,
      length-append (map pair_of_seed h.config.seeds) (map pair_of h.arrived),
      length-map h.config.seeds pair_of_seed,
      length-map h.arrived pair_of,
      form.few_seeds,
      size,
      s.valid.few,
      receipt_limit-most h.config,
    )

-- What the flags say, for equal numbers of configured documents, flags of receipts and first
-- numbers.
pub raised-as : (flags : List Bool) (a b : ℕ) (rs ss : List Bool) (fs gs : List ℕ) → a ≡ b → rs ≡ ss → fs ≡ gs
    → ((n : ℕ) → (is_raised flags n ≡ true) ↔ IsFirstAccepted a rs fs (length fs) n) → (n : ℕ)
    → (is_raised flags n ≡ true) ↔ IsFirstAccepted b ss gs (length gs) n
raised-as flags a b rs ss fs gs seeds released heads raised n =
    subst (λ (k : ℕ). (is_raised flags n ≡ true) ↔ IsFirstAccepted k ss gs (length gs) n) seeds
    (subst (λ (bs : List Bool). (is_raised flags n ≡ true) ↔ IsFirstAccepted a bs gs (length gs) n) released
    (subst (λ (ns : List ℕ). (is_raised flags n ≡ true) ↔ IsFirstAccepted a rs ns (length ns) n) heads (raised n)))

-- With one more receipt no fewer flags are raised, and the rise is what is gained.
pub gain-added : (h new : HeldReceipts) (p q : DocumentTableView) (offers : List Triple) (released others : List Bool) (r : Receipt)
    (first : ℕ) → HasPlainFlags h p offers released → IsReceipt r → new ≡ with_arrival h r
    → HasPlainFlags new q offers others
    → q.heads ≡ p.heads ++ first ∷ [] → length q.counts ≡ length p.counts + 1
    → (raised_count (flags_of p.counts) ≤ raised_count (flags_of q.counts))
    × ((n : ℕ) → raised_count (flags_of q.counts) ≡ raised_count (flags_of p.counts) + n
    → IsGain (meaning_of h) (meaning_of new) n)
gain-added h new p q offers released others r first i form is j list size =
    let config : h.config ≡ new.config = sym (ap (λ (x : HeldReceipts). x.config) is) in
    let heads : (node number : ℕ) → slice_get p.heads node ≡ Some number → slice_get q.heads node ≡ Some number =
    λ node number at. ap (λ fs. slice_get fs node) list ∙ slice_get-left p.heads (first ∷ []) node number at in
    let sizes : length p.counts ≤ length q.counts = omega (arith, size) in (
      few-carry h new p q offers released others config (arrivals-more h new r is) (release-more h new r i.set.valid form i.set.same is) i j heads sizes,
      gain-carry h new p q offers released others config (arrivals-more h new r is) (release-more h new r i.set.valid form i.set.same is) i j heads sizes,
    )

-- With more records of distrust no more flags are raised, and the fall is what is lost.
pub loss-fallen : (old new : HeldReceipts) (xs : List Distrust) (p q : DocumentTableView) (offers : List Triple)
    (released others : List Bool) → HasPlainFlags old p offers released → IsBefore old xs new
    → HasPlainFlags new q offers others
    → q.heads ≡ p.heads → length q.counts ≡ length p.counts
    → (raised_count (flags_of q.counts) ≤ raised_count (flags_of p.counts))
    × ((n : ℕ) → raised_count (flags_of p.counts) ≡ raised_count (flags_of q.counts) + n
    → IsGain (meaning_of new) (meaning_of old) n)
loss-fallen old new xs p q offers released others i before j list size =
    let arrivals : (place : ℕ) (r : Receipt) → slice_get new.arrived place ≡ Some r → slice_get old.arrived place ≡ Some r =
    λ place r at. ap (λ rs. slice_get rs place) (sym before.arrived) ∙ at in
    let heads : (node number : ℕ) → slice_get q.heads node ≡ Some number → slice_get p.heads node ≡ Some number =
    λ node number at. ap (λ fs. slice_get fs node) (sym list) ∙ at in
    let sizes : length q.counts ≤ length p.counts = omega (arith, size) in (
      few-carry new old q p offers others released before.config arrivals
          (release-fewer old new xs before) j i heads sizes,
      gain-carry new old q p offers others released before.config arrivals
          (release-fewer old new xs before) j i heads sizes,
    )
